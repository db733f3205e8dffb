-- What is read off a block at once is what is read token by token.
use Rattle.std.proofs.Common.{◌≡◌, ℕ, ◌+◌, ◌-◌, ◌≤◌, nat_le, true, false, ◌==◌, nat_eq, List, [], ◌∷◌}
use Rattle.std.proofs.Common.{◌++◌, length, min, take, drop, Option, Some, None, Bor, refl, sym, ap, ◌∙◌, append_assoc, append-nil, arith}
use Rattle.std.specs.Prelude.{IfSome, MatchOption}
use Rattle.std.specs.List.{list_all, list_any, prefix_len}
use Rattle.std.specs.Io.{StartsWith}
use Rattle.std.specs.Io.KnownBytes.{Keeps}
use Rattle.std.specs.Io.BufRead.{DropsConsumable}
use Rattle.std.specs.Cmp.Lexicographic.{pointwise}
use Rattle.std.proofs.lemmas.Bool.{and_parts}
use Rattle.std.proofs.lemmas.List.{take-append-drop, length-append, take_min}
use Rattle.std.proofs.lemmas.List.Prefix.{front_rest}
use Rattle.std.proofs.lemmas.Slice.Eq.{bytes_eq-Decides}
use Rattle.text.specs.Text.{is_digit, is_numeral, value_of}
use Rattle.text.specs.Lines.{IfKnown}
use Rattle.text.specs.Tokens.{is_other}
use Rattle.text.specs.Stream.{line_of, after_line, is_inside}
use Rattle.text.proofs.Spaced.{numeral_digits}
use Rattle.text.proofs.Scanning.{run_passes, none_other, HasNumber}
use Rattle.text.proofs.Streaming.{known_only, front_all, line_run, all_of, inside_of}
use Rattle.text.proofs.AtHand.{TakesOff, taken_off}
use Rattle.systems.specs.System.{Arrow}
use Rattle.lts.specs.Aut.{IsTransition}
use Rattle.systems.specs.declared.limits.TheConstants.{LONGEST_LABEL}
use Rattle.lts.specs.Scan.{transition_at, PassesTransition}
use Rattle.lts.specs.Plain.{is_inner, plain_text, IsPlainThen, PassesAutAtHand}
use Rattle.lts.proofs.Scanning.{transition_finds}

-- ---- the parts

pub past_is : (s p : List ℕ) (r : Option (Bor (List ℕ))) → MatchOption r (pointwise nat_eq (take (length p) s) p ≡ false)
    (λ x. (pointwise nat_eq (take (length p) s) p ≡ true) × (x.now ≡ drop (length p) s) × (length x.now + length p ≡ length s))
    → IfSome r (λ x. s ≡ p ++ x.now)
past_is s p None h = tt
past_is s p (Some x) (same, rest, long) =
    let front : take (length p) s ≡ p = (bytes_eq-Decides (take (length p) s) p).0 same in
    sym (take-append-drop (length p) s) ∙ ap (λ l. l ++ drop (length p) s) front ∙ ap (λ l. p ++ l) (sym rest)

pub shorter : (front rest whole : List ℕ) → whole ≡ front ++ rest → length rest ≤ length whole
shorter front rest whole cut = omega (arith, ap length cut, length-append front rest)

pub inner_is : (bytes front : List ℕ) (n : ℕ) → n ≡ prefix_len is_inner bytes → front ≡ take n bytes → list_all is_inner front ≡ true
inner_is bytes front n count is = rw (is, count) (run_passes is_inner bytes)

-- what follows comes last
plain_append : (from label to rest more : List ℕ) → plain_text from label to rest ++ more ≡ plain_text from label to (rest ++ more)
plain_append from label to rest more =
    ap (λ l. 40 ∷ l) (append_assoc from (44 ∷ 34 ∷ label ++ (34 ∷ 44 ∷ to ++ (41 ∷ rest))) more)
    ∙ ap (λ l. 40 ∷ from ++ (44 ∷ 34 ∷ l)) (append_assoc label (34 ∷ 44 ∷ to ++ (41 ∷ rest)) more)
    ∙ ap (λ l. 40 ∷ from ++ (44 ∷ 34 ∷ label ++ (34 ∷ 44 ∷ l))) (append_assoc to (41 ∷ rest) more)

pub plain_is : (s t n : ℕ) (label block r1 r2 r3 r4 r5 r6 last : List ℕ) → block ≡ (40 ∷ []) ++ r1 → HasNumber s r1 r2 → r2 ≡ (44 ∷ 34 ∷ []) ++ r3
    → r3 ≡ label ++ r4 → list_all is_inner label ≡ true
    → r4 ≡ (34 ∷ 44 ∷ []) ++ r5 → HasNumber t r5 r6 → r6 ≡ (41 ∷ 10 ∷ []) ++ last → n ≡ length block - length last
    → IsPlainThen s label t block (drop n block)
plain_is s t n label block r1 r2 r3 r4 r5 r6 last bracket source comma quote inner close target end len =
    let cut : block ≡ plain_text source.digits label target.digits (10 ∷ last) =
    bracket ∙ ap (λ l. 40 ∷ l) (source.cut ∙ ap (λ l. source.digits ++ l)
    (comma ∙ ap (λ l. 44 ∷ 34 ∷ l) (quote ∙ ap (λ l. label ++ l) (close ∙ ap (λ l. 34 ∷ 44 ∷ l) (target.cut ∙ ap (λ l. target.digits ++ l) end))))) in
    let front = plain_text source.digits label target.digits (10 ∷ []) in
    let split : block ≡ front ++ last = cut ∙ sym (plain_append source.digits label target.digits (10 ∷ []) last) in
    let long : n ≡ length front = omega (arith, len, ap length split ∙ length-append front last) in
    let back : drop n block ≡ last = ap (λ k. drop k block) long ∙ front_rest block front last split in
    record {
      from = source.digits;
      to = target.digits;
      from-numeral = source.numeral;
      to-numeral = target.numeral;
      from-is = source.is;
      to-is = target.is;
      inner = inner;
      cut = cut ∙ ap (λ l. plain_text source.digits label target.digits (10 ∷ l)) (sym back);
    }

-- ---- the line

not_inner : (b : ℕ) → is_inner b ≡ true → is_other 34 b ≡ true
not_inner b h = (and_parts (nat_le 32 b) (is_other 34 b) h).1

-- no end of a line stands in it
all_inside : (from label to : List ℕ) → is_numeral from ≡ true → is_numeral to ≡ true → list_all is_inner label ≡ true
    → list_all is_inside (plain_text from label to []) ≡ true
all_inside from label to hf ht inner =
    front_all is_inside from (44 ∷ 34 ∷ label ++ (34 ∷ 44 ∷ to ++ (41 ∷ []))) (digits_inside from hf)
    ∙ front_all is_inside label (34 ∷ 44 ∷ to ++ (41 ∷ [])) (all_of is_inner is_inside (inside_of is_inner refl refl) label inner)
    ∙ front_all is_inside to (41 ∷ []) (digits_inside to ht)
  where
    digits_inside : (ds : List ℕ) → is_numeral ds ≡ true → list_all is_inside ds ≡ true
    digits_inside ds h = all_of is_digit is_inside (inside_of is_digit refl refl) ds (numeral_digits ds h)

around : (label rest : List ℕ) → (34 ∷ label ++ 34 ∷ []) ++ rest ≡ 34 ∷ (label ++ (34 ∷ rest))
around label rest = ap (λ l. 34 ∷ l) (append_assoc label (34 ∷ []) rest)

abbrev arrow : ℕ → List ℕ → ℕ → Arrow
arrow s label t = record { source = s; label = label; target = t }

-- it is a transition
spells : (from label to : List ℕ) → is_numeral from ≡ true → is_numeral to ≡ true → list_all is_inner label ≡ true
    → IsTransition (plain_text from label to []) (arrow (value_of from) label (value_of to))
spells from label to hf ht inner =
    let plain : list_any (λ b. b == 34) label ≡ false = none_other 34 label
    (all_of is_inner (is_other 34) not_inner label inner) in
    let r5 : List ℕ = 41 ∷ [] in
    let r4 : List ℕ = to ++ r5 in
    let r3 : List ℕ = 44 ∷ r4 in
    let r2 : List ℕ = 34 ∷ label ++ (34 ∷ r3) in
    let r1 : List ℕ = from ++ (44 ∷ r2) in (
      from,
      to,
      (hf, refl),
      (ht, refl),
      plain,
      (
        [],
        r1,
        refl,
        refl,
        (
          [],
          44 ∷ r2,
          refl,
          refl,
          (
            [],
            r2,
            refl,
            refl,
            (
              [],
              r3,
              refl,
              sym (around label r3),
              ([], r4, refl, refl, ([], r5, refl, refl, ([], [], refl, refl, refl))),
            ),
          ),
        ),
      ),
    )

-- what the plain line says is what the tokens say, whatever follows the block
pub plain_passes : (s t : ℕ) (label text left more : List ℕ) → IsPlainThen s label t text left
    → PassesTransition (take (LONGEST_LABEL + 1) label) (Some (record { source = s; target = t })) (text ++ more) (left ++ more)
plain_passes s t label text left more p =
    let line = plain_text p.from label p.to [] in
    let split : text ++ more ≡ line ++ 10 ∷ (left ++ more) = ap (λ l. l ++ more) p.cut ∙ plain_append p.from label p.to (10 ∷ left) more
    ∙ sym (plain_append p.from label p.to [] (10 ∷ (left ++ more))) in
    let (piece, under) = line_run line (10 ∷ (left ++ more)) (all_inside p.from label p.to p.from-numeral p.to-numeral p.inner) in
    let first : line_of (text ++ more) ≡ line = ap line_of split ∙ piece ∙ append-nil line in
    let found = transition_finds line (arrow (value_of p.from) label (value_of p.to)) (spells p.from label p.to p.from-numeral p.to-numeral p.inner) in
    (label, ap transition_at first ∙ found ∙ rw (p.from-is, p.to-is) refl, sym (ap after_line split ∙ under), refl)

-- ---- the block at hand

pub at_hand_is : (kept block label : List ℕ) (s t n : ℕ) (old mid new : Option (List ℕ)) (limit : Option ℕ) → IfSome old (λ xs. StartsWith xs block)
    → Keeps old mid
    → IfSome old (λ _. IfSome limit (λ n. length block ≤ n)) → DropsConsumable mid new limit n → n ≤ length block
    → IsPlainThen s label t block (drop n block) → kept ≡ take (LONGEST_LABEL + 1) label
    → IfKnown old new (PassesAutAtHand kept (Some (record { source = s; target = t })))
at_hand_is kept block label s t n old mid new limit front same fits drops within plain is =
    known_only {P = TakesOff block n} {Q = PassesAutAtHand kept (Some (record { source = s; target = t }))} old new
    (taken_off block n old mid new limit front same fits drops within)
    (λ text left (more, whole, rest).
    rw (whole, rest, is) (plain_passes s t label block (drop n block) more plain))

pub kept_is : (most : ℕ) (kept old label : List ℕ) → kept ≡ old ++ take most label → old ≡ [] → most ≡ min (length label) (LONGEST_LABEL + 1)
    → kept ≡ take (LONGEST_LABEL + 1) label
kept_is most kept old label grown none is =
    let most-is : most ≡ min (LONGEST_LABEL + 1) (length label) = omega (arith, is) in
    grown ∙ ap (λ l. l ++ take most label) none ∙ ap (λ n. take n label) most-is ∙ take_min (LONGEST_LABEL + 1) label
