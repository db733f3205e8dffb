-- What is read off a block at once spells a vertex line.
use Rattle.std.proofs.Common.{◌≡◌, ℕ, ◌-◌, ◌<◌, ◌≤◌, true, List, [], ◌∷◌, ◌++◌, length, map, take, drop, Option, Some, None, Bor, codes, refl, sym, ap, ◌∙◌}
use Rattle.std.proofs.Common.{subst, append_assoc, append-nil, arith}
use Rattle.std.specs.List.{AllZip, list_all, prefix_len}
use Rattle.std.specs.Prelude.{nat_le, IfSome}
use Rattle.std.proofs.lemmas.Bool.{and_parts}
use Rattle.std.proofs.lemmas.List.{length-append}
use Rattle.std.proofs.lemmas.List.Folds.{list_all-append}
use Rattle.std.proofs.lemmas.List.Prefix.{front_rest}
use Rattle.text.specs.Text.{is_digit, is_numeral, value_of, IsNumeral, IsSpaced}
use Rattle.text.specs.Tokens.{capped}
use Rattle.text.specs.Stream.{is_inside}
use Rattle.text.proofs.Spaced.{numeral_digits}
use Rattle.text.proofs.Scanning.{run_passes, HasNumber}
use Rattle.text.proofs.Streaming.{all_of, inside_of}
use Rattle.systems.specs.Label.{is_label_byte}
use Rattle.game.specs.declared.player.Player.{Player}
use Rattle.game.specs.declared.player.Player.TheVariants.{Even, Odd}
use Rattle.pgsolver.specs.declared.limits.TheConstants.{LONGEST_NAME}
use Rattle.pgsolver.specs.declared.scan.Head.{Head}
use Rattle.pgsolver.specs.Canon.{owner_digit}
use Rattle.pgsolver.specs.Spelling.{VertexLine, IsName, name_tokens, with_commas}
use Rattle.pgsolver.specs.Scan.{line_said}
use Rattle.pgsolver.specs.Plain.{IsNumeralOf, IsHeadThen, AddsCommas, IsTailThen, IsLineThen, commas, name_then}
use Rattle.pgsolver.proofs.Scanning.{line_finds}

abbrev Tokens : Type 0
Tokens = List (List ℕ)

-- ---- numbers behind commas

commas_more : (ds : Tokens) (d rest : List ℕ) → commas (ds ++ d ∷ []) rest ≡ commas ds (44 ∷ d ++ rest)
commas_more [] d rest = refl
commas_more (e ∷ ds) d rest = ap (λ l. 44 ∷ e ++ l) (commas_more ds d rest)

numerals_more : (ds : Tokens) (ns : List ℕ) (d : List ℕ) (n : ℕ) → AllZip IsNumeralOf ds ns → IsNumeralOf d n → AllZip IsNumeralOf (ds ++ d ∷ []) (ns ++ n ∷ [])
numerals_more [] [] d n are one = (one, tt)
numerals_more [] (m ∷ ns) d n are one = absurd are
numerals_more (e ∷ ds) [] d n are one = absurd are
numerals_more (e ∷ ds) (m ∷ ns) d n are one = (are.0, numerals_more ds ns d n are.1 one)

pub commas_none : (old text : List ℕ) → AddsCommas old old text text
commas_none old text = record { digits = []; numbers = []; are = tt; added = sym (append-nil old); cut = refl }

pub commas_one : (n : ℕ) (old now new text rest after left : List ℕ) → AddsCommas old now text rest → rest ≡ 44 ∷ after → HasNumber n after left
    → new ≡ now ++ n ∷ [] → AddsCommas old new text left
commas_one n old now new text rest after left so comma number pushed = record {
  digits = so.digits ++ number.digits ∷ [];
  numbers = so.numbers ++ n ∷ [];
  are = numerals_more so.digits so.numbers number.digits n so.are (number.numeral, number.is);
  added = pushed ∙ ap (λ l. l ++ n ∷ []) so.added ∙ append_assoc old so.numbers (n ∷ []);
  cut = so.cut ∙ ap (commas so.digits) (comma ∙ ap (λ l. 44 ∷ l) number.cut) ∙ sym (commas_more so.digits number.digits left);
}

-- what is behind a comma and a number is shorter
pub shorter : (n : ℕ) (rest after left : List ℕ) → rest ≡ 44 ∷ after → HasNumber n after left → length left < length rest
shorter n rest after left comma number = omega (arith, ap length comma, ap length number.cut, length-append number.digits left)

-- ---- names

pub name_bytes : (bytes front : List ℕ) (n : ℕ) → n ≡ prefix_len is_label_byte bytes → front ≡ take n bytes → list_all is_label_byte front ≡ true
name_bytes bytes front n count is = rw (is, count) (run_passes is_label_byte bytes)

pub named_tail : (bytes quoted behind : List ℕ) (r : Option (Bor (List ℕ))) → bytes ≡ 32 ∷ 34 ∷ quoted
    → (n : List ℕ) × IsName (Some n) × (quoted ≡ n ++ (34 ∷ behind)) → IfSome r (λ rest. behind ≡ 59 ∷ 10 ∷ rest.now)
    → IfSome r (λ rest. IsTailThen bytes rest.now)
named_tail bytes quoted behind None opened closed end = tt
named_tail bytes quoted behind (Some rest) opened (n, is, cut) end =
    record { name = Some n; is = is; cut = opened ∙ ap (λ l. 32 ∷ 34 ∷ l) (cut ∙ ap (λ l. n ++ (34 ∷ l)) end) }

-- ---- the tokens of a line, and its LF

-- the text is a line of these tokens, without an end of a line within, and what follows its LF
abbrev Here : Tokens → List ℕ → List ℕ → Type 0
Here ts text left = (line : List ℕ) × IsSpaced ts line × (list_all is_inside line ≡ true) × (text ≡ line ++ 10 ∷ left)

here_token : (t : List ℕ) (ts : Tokens) (text left : List ℕ) → list_all is_inside t ≡ true → Here ts text left → Here (t ∷ ts) (t ++ text) left
here_token t ts text left inside (line, spaced, all, cut) = (
  t ++ line,
  ([], line, refl, refl, spaced),
  list_all-append is_inside t line ∙ rw (inside, all) refl,
  ap (λ l. t ++ l) cut ∙ sym (append_assoc t line (10 ∷ left)),
)

here_blank : (t : List ℕ) (ts : Tokens) (text left : List ℕ) → Here (t ∷ ts) text left → Here (t ∷ ts) (32 ∷ text) left
here_blank t ts text left (line, (gap, rest, blank, is, spaced), all, cut) =
    (32 ∷ line, (32 ∷ gap, rest, blank, ap (λ l. 32 ∷ l) is, spaced), all, ap (λ l. 32 ∷ l) cut)

digits_inside : (ds : List ℕ) → is_numeral ds ≡ true → list_all is_inside ds ≡ true
digits_inside ds h = all_of is_digit is_inside (inside_of is_digit refl refl) ds (numeral_digits ds h)

here_commas : (ds ts : Tokens) (ns text left : List ℕ) → AllZip IsNumeralOf ds ns → Here ts text left → Here (with_commas ds ++ ts) (commas ds text) left
here_commas [] ts [] text left are here = here
here_commas [] ts (n ∷ ns) text left are here = absurd are
here_commas (d ∷ ds) ts [] text left are here = absurd are
here_commas (d ∷ ds) ts (n ∷ ns) text left are here =
    here_token (44 ∷ []) (d ∷ with_commas ds ++ ts) (d ++ commas ds text) left refl
    (here_token d (with_commas ds ++ ts) (commas ds text) left (digits_inside d are.0.0) (here_commas ds ts ns text left are.1 here))

here_end : (left : List ℕ) → Here (codes ";" ∷ []) (59 ∷ 10 ∷ left) left
here_end left = here_token (59 ∷ []) [] (10 ∷ left) left refl ([], refl, refl, refl)

here_tail : (name : Option (List ℕ)) (left : List ℕ) → IsName name → Here (name_tokens name ++ codes ";" ∷ []) (name_then name (59 ∷ 10 ∷ left)) left
here_tail None left is = here_end left
here_tail (Some bytes) left is =
    let quoted : List ℕ = 34 ∷ bytes ++ 34 ∷ [] in
    let all : list_all is_label_byte bytes ≡ true = (and_parts (nat_le (length bytes) LONGEST_NAME) (list_all is_label_byte bytes) is).1 in
    let inside : list_all is_inside quoted ≡ true = list_all-append is_inside bytes (34 ∷ [])
    ∙ rw (all_of is_label_byte is_inside (inside_of is_label_byte refl refl) bytes all) refl in
    let text : quoted ++ (59 ∷ 10 ∷ left) ≡ 34 ∷ bytes ++ (34 ∷ 59 ∷ 10 ∷ left) = ap (λ l. 34 ∷ l) (append_assoc bytes (34 ∷ []) (59 ∷ 10 ∷ left)) in
    here_blank quoted (codes ";" ∷ []) (34 ∷ bytes ++ (34 ∷ 59 ∷ 10 ∷ left)) left
    (subst (λ l. Here (quoted ∷ codes ";" ∷ []) l left) text (here_token quoted (codes ";" ∷ []) (59 ∷ 10 ∷ left) left inside (here_end left)))

owner_inside : (o : Player) → list_all is_inside (owner_digit o) ≡ true
owner_inside Even = refl
owner_inside Odd = refl

-- ---- what stands before the successors

pub front_is : (i p : ℕ) (o : Player) (block r1 r2 r3 r4 r5 left : List ℕ) → HasNumber i block r1 → r1 ≡ 32 ∷ r2 → HasNumber p r2 r3 → r3 ≡ 32 ∷ r4
    → r4 ≡ owner_digit o ++ r5 → r5 ≡ 32 ∷ left → IsHeadThen (record { id = i; priority = p; owner = o }) block left
front_is i p o block r1 r2 r3 r4 r5 left id first priority second owner third = record {
  i = id.digits;
  p = priority.digits;
  id = (id.numeral, id.is);
  priority = (priority.numeral, priority.is);
  cut = id.cut ∙ ap (λ l. id.digits ++ l) (first ∙ ap (λ l. 32 ∷ l) (priority.cut ∙ ap (λ l. priority.digits ++ l)
      (second ∙ ap (λ l. 32 ∷ l) (owner ∙ ap (λ l. owner_digit o ++ l) third))));
}

-- ---- the line

numerals_are : (ds : Tokens) (ns : List ℕ) → AllZip IsNumeralOf ds ns → AllZip IsNumeral ds (map value_of ds) × (map capped (map value_of ds) ≡ ns)
numerals_are [] [] are = (tt, refl)
numerals_are [] (n ∷ ns) are = absurd are
numerals_are (d ∷ ds) [] are = absurd are
numerals_are (d ∷ ds) (n ∷ ns) (one, are) =
    let rest = numerals_are ds ns are in (((one.0, refl), rest.0), λ i. sym one.1 i ∷ rest.1 i)

line_is : (head : Head) (t : ℕ) (all block r1 r2 r3 left : List ℕ) → IsHeadThen head block r1 → HasNumber t r1 r2 → AddsCommas (t ∷ []) all r2 r3
    → IsTailThen r3 left → IsLineThen (line_said head all) block left
line_is head t all block r1 r2 r3 left h first more end =
    let blank : List ℕ = 32 ∷ [] in
    let after = with_commas more.digits ++ (name_tokens end.name ++ codes ";" ∷ []) in
    let last : Here after r2 left = subst (λ l. Here after l left) (sym (more.cut ∙ ap (commas more.digits) end.cut))
    (here_commas more.digits (name_tokens end.name ++ codes ";" ∷ []) more.numbers (name_then end.name (59 ∷ 10 ∷ left)) left more.are (here_tail end.name left end.is)) in
    let second : Here (first.digits ∷ after) r1 left = subst (λ l. Here (first.digits ∷ after) l left) (sym first.cut)
    (here_token first.digits after r2 left (digits_inside first.digits first.numeral) last) in
    let third = here_token blank (first.digits ∷ after) r1 left refl second in
    let owned = here_token (owner_digit head.owner) (blank ∷ first.digits ∷ after) (32 ∷ r1) left (owner_inside head.owner) third in
    let o : List ℕ = owner_digit head.owner ++ (32 ∷ r1) in
    let ts : Tokens = owner_digit head.owner ∷ blank ∷ first.digits ∷ after in
    let counted = here_token h.p (blank ∷ ts) (32 ∷ o) left (digits_inside h.p h.priority.0) (here_token blank ts o left refl owned) in
    let p : List ℕ = h.p ++ (32 ∷ o) in
    let named = here_token h.i (blank ∷ h.p ∷ blank ∷ ts) (32 ∷ p) left (digits_inside h.i h.id.0) (here_token blank (h.p ∷ blank ∷ ts) p left refl counted) in
    let whole : Here (h.i ∷ blank ∷ h.p ∷ blank ∷ ts) block left = subst (λ l. Here (h.i ∷ blank ∷ h.p ∷ blank ∷ ts) l left) (sym h.cut) named in
    let (line, spaced, inside, cut) = whole in
    let are = numerals_are (first.digits ∷ more.digits) (t ∷ more.numbers) ((first.numeral, first.is), more.are) in
    let says : VertexLine = record { id = value_of h.i; priority = value_of h.p; owner = head.owner; successors = map value_of (first.digits ∷ more.digits) } in
    let found = line_finds line says (record {
      i = h.i;
      p = h.p;
      first_gap = blank;
      second_gap = blank;
      third_gap = blank;
      targets = first.digits ∷ more.digits;
      name = end.name;
      id = (h.id.0, refl);
      priority = (h.priority.0, refl);
      successors = are.0;
      gaps = ((32, refl, refl), (32, refl, refl), (32, refl, refl));
      named = end.is;
      spaced = spaced;
    }) in
    record {
      line = line;
      inside = inside;
      cut = cut;
      is = found
          ∙ (λ i. Some (record { id = sym h.id.1 i; priority = sym h.priority.1 i; owner = head.owner; successors = (are.1 ∙ sym more.added) i }));
    }

-- what is behind the line is what is left of the block
pub plain_is : (head : Head) (t n : ℕ) (all block r1 r2 r3 left : List ℕ) → IsHeadThen head block r1 → HasNumber t r1 r2 → AddsCommas (t ∷ []) all r2 r3
    → IsTailThen r3 left → n ≡ length block - length left → IsLineThen (line_said head all) block (drop n block)
plain_is head t n all block r1 r2 r3 left h first more end len =
    let l = line_is head t all block r1 r2 r3 left h first more end in
    let split : block ≡ (l.line ++ 10 ∷ []) ++ left = l.cut ∙ sym (append_assoc l.line (10 ∷ []) left) in
    let long : n ≡ length (l.line ++ 10 ∷ []) = omega (arith, len, ap length split, length-append (l.line ++ 10 ∷ []) left) in
    let back : drop n block ≡ left = ap (λ k. drop k block) long ∙ front_rest block (l.line ++ 10 ∷ []) left split in
    record { line = l.line; inside = l.inside; cut = l.cut ∙ ap (λ l'. l.line ++ 10 ∷ l') (sym back); is = l.is }

pub within : (head : Head) (t : ℕ) (all block r1 r2 r3 left : List ℕ) → IsHeadThen head block r1 → HasNumber t r1 r2 → AddsCommas (t ∷ []) all r2 r3
    → IsTailThen r3 left → length left ≤ length block
within head t all block r1 r2 r3 left h first more end =
    let l = line_is head t all block r1 r2 r3 left h first more end in omega (arith, ap length l.cut, length-append l.line (10 ∷ left))
