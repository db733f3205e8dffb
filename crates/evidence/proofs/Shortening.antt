-- How a line is kept, block by block.
use Rattle.std.proofs.Common.{◌≡◌, ℕ, zero, suc, ◌+◌, ◌<◌, ◌≤◌, inl, inr, Bool, true, false, cond, not, ◌||◌, ◌==◌, nat_eq, nat_lt, min, get_or, List, []}
use Rattle.std.proofs.Common.{◌∷◌, ◌++◌, length, take, drop, Option, Some, None, refl, sym, ap, ◌∙◌, subst, append_assoc, append-nil, arith}
use Rattle.std.specs.Prelude.{IfSome}
use Rattle.std.specs.List.{list_all, prefix_len}
use Rattle.std.specs.Io.{StartsWith}
use Rattle.std.specs.Io.KnownBytes.{Keeps as KeepsLeft}
use Rattle.std.specs.Io.BufRead.{DropsConsumable}
use Rattle.std.proofs.lemmas.Bool.{and_parts, cases_lt, le-ltb, lt-ltb, eqb-true}
use Rattle.std.proofs.lemmas.List.{take-append-drop, take_all, take_more}
use Rattle.std.proofs.lemmas.List.Folds.{list_all-append}
use Rattle.text.specs.Lines.{IfKnown}
use Rattle.text.specs.Tokens.{is_other}
use Rattle.text.specs.Stream.{first_piece, after_line}
use Rattle.text.proofs.Scanning.{run_passes}
use Rattle.text.proofs.Streaming.{known_then}
use Rattle.evidence.specs.declared.limits.TheConstants.{LONGEST_LINE}
use Rattle.evidence.specs.Short.{digits_then, kept_of, digits_after, short_from, short, Puts, KeepsShort, TakesOn, TakesShort}

-- ---- one byte

take_short : (m : ℕ) (front : List ℕ) (b : ℕ) → length (take m front) < m → take m front ++ b ∷ [] ≡ take m (front ++ b ∷ [])
take_short zero front b less = absurd (omega (arith, less))
take_short (suc m) [] b less = ap (λ l. b ∷ l) (sym (take_all m [] (omega arith)))
take_short (suc m) (c ∷ front) b less = ap (λ l. c ∷ l) (take_short m front b (omega (arith, less)))

take_full : (m : ℕ) (front : List ℕ) (b : ℕ) → m ≤ length (take m front) → take m front ≡ take m (front ++ b ∷ [])
take_full zero front b full = refl
take_full (suc m) [] b full = absurd (omega (arith, full))
take_full (suc m) (c ∷ front) b full = ap (λ l. c ∷ l) (take_full m front b (omega (arith, full)))

-- there is room for the byte
pub puts_more : (b : ℕ) (old new : List ℕ) → new ≡ old ++ b ∷ [] → length old < LONGEST_LINE → Puts (b ∷ []) old new
puts_more b old new grown room = λ front is.
    grown ∙ ap (λ l. l ++ b ∷ []) is ∙ take_short LONGEST_LINE front b (omega (arith, ap length is, room))

-- there is none
pub puts_none : (b : ℕ) (old : List ℕ) → LONGEST_LINE ≤ length old → Puts (b ∷ []) old old
puts_none b old full = λ front is. is ∙ take_full LONGEST_LINE front b (omega (arith, ap length is, full))

pub puts_nothing : (old : List ℕ) → Puts [] old old
puts_nothing old = λ front is. is ∙ ap (take LONGEST_LINE) (sym (append-nil front))

pub puts_as : (xs ys old new : List ℕ) → xs ≡ ys → Puts ys old new → Puts xs old new
puts_as xs ys old new same puts = λ front is. puts front is ∙ ap (λ l. take LONGEST_LINE (front ++ l)) (sym same)

puts_both : (xs ys old mid new : List ℕ) → Puts xs old mid → Puts ys mid new → Puts (xs ++ ys) old new
puts_both xs ys old mid new one two = λ front is. two (front ++ xs) (one front is) ∙ ap (take LONGEST_LINE) (append_assoc front xs ys)

-- ---- a run of bytes

digits_both : (d : ℕ) (xs ys : List ℕ) → digits_after d (xs ++ ys) ≡ digits_after (digits_after d xs) ys
digits_both d [] ys = refl
digits_both d (b ∷ xs) ys = digits_both (digits_then d b) xs ys

short_both : (d : ℕ) (xs ys : List ℕ) → short_from d (xs ++ ys) ≡ short_from d xs ++ short_from (digits_after d xs) ys
short_both d [] ys = refl
short_both d (b ∷ xs) ys = ap (λ l. kept_of d b ++ l) (short_both (digits_then d b) xs ys)
    ∙ sym (append_assoc (kept_of d b) (short_from (digits_then d b) xs) (short_from (digits_after (digits_then d b) xs) ys))

-- what was kept so far
pub record KeptSo (d : ℕ) (run old now : List ℕ) (after : ℕ) : Type 0 where
  pub digits : after ≡ digits_after d run
  pub kept : KeepsShort d run old now

pub kept_none : (d : ℕ) (old : List ℕ) → KeptSo d [] old old d
kept_none d old = record { digits = refl; kept = puts_nothing old }

-- one byte more
pub kept_more : (d : ℕ) (run : List ℕ) (i : ℕ) (old now new : List ℕ) (after next : ℕ) → i < length run → KeptSo d (take i run) old now after
    → next ≡ digits_then after (get_or run i 0) → Puts (kept_of after (get_or run i 0)) now new → KeptSo d (take (i + 1) run) old new next
kept_more d run i old now new after next below so digits puts =
    let b = get_or run i 0 in
    let front = take i run in
    let step : take (i + 1) run ≡ front ++ b ∷ [] = take_more run i 0 below in
    record {
      digits = digits ∙ ap (λ n. digits_then n b) so.digits ∙ sym (ap (digits_after d) step ∙ digits_both d front (b ∷ []));
      kept = puts_as (short_from d (take (i + 1) run)) (short_from d front ++ kept_of after b) old new
          (ap (short_from d) step ∙ short_both d front (b ∷ [])
          ∙ ap (λ n. short_from d front ++ short_from n (b ∷ [])) (sym so.digits) ∙ ap (λ l. short_from d front ++ l) (append-nil (kept_of after b)))
          (puts_both (short_from d front) (kept_of after b) old now new so.kept puts);
    }

-- ---- a block

-- the line ends in the block
ends_in : (block rest : List ℕ) → prefix_len (is_other 10) block < length block
    → (first_piece (block ++ rest) ≡ take (prefix_len (is_other 10) block) block)
    × (after_line (block ++ rest) ≡ drop (prefix_len (is_other 10) block + 1) (block ++ rest))
ends_in [] rest h = absurd (omega (arith, h))
ends_in (b ∷ block) rest h =
    elim (b == 10) as (λ c. cond (not c) (1 + prefix_len (is_other 10) block) 0 < length (b ∷ block)
    → (cond c [] (b ∷ first_piece (block ++ rest)) ≡ take (cond (not c) (1 + prefix_len (is_other 10) block) 0) (b ∷ block))
    × (cond c (block ++ rest) (after_line (block ++ rest)) ≡ drop (cond (not c) (1 + prefix_len (is_other 10) block) 0 + 1) (b ∷ (block ++ rest)))) [
      | true ↦ λ k. (refl, refl)
      | false ↦ λ k.
          let one : 1 + prefix_len (is_other 10) block ≡ suc (prefix_len (is_other 10) block) = omega arith in
          let two : suc (prefix_len (is_other 10) block) + 1 ≡ suc (prefix_len (is_other 10) block + 1) = omega arith in
          let (piece, under) = ends_in block rest (omega (arith, k)) in
          rw (one, two) (ap (λ l. b ∷ l) piece, under)
    ] h

drop_nothing : (n : ℕ) (text : List ℕ) → text ≡ [] → drop n text ≡ []
drop_nothing zero text none = none
drop_nothing (suc n) [] none = refl
drop_nothing (suc n) (b ∷ text) none = absurd cc

-- all bytes were kept
pub kept_all : (d : ℕ) (run : List ℕ) (i : ℕ) (old now : List ℕ) (after : ℕ) → length run ≤ i → KeptSo d (take i run) old now after → KeptSo d run old now after
kept_all d run i old now after past so = subst (λ r. KeptSo d r old now after) (take_all i run past) so

pub ran : (d count taken : ℕ) (after : ℕ) (before now block : List ℕ) (ended : Bool) (old mid new : Option (List ℕ)) (limit : Option ℕ)
    → IfSome old (λ xs. StartsWith xs block) → IfSome old (λ xs. length block ≡ 0 → xs ≡ []) → KeepsLeft old mid
    → IfSome old (λ _. IfSome limit (λ n. length block ≤ n)) → DropsConsumable mid new limit taken → count ≡ prefix_len (is_other 10) block
    → count ≤ length block → taken ≡ min (count + 1) (length block) → ended ≡ (nat_lt count (length block) || nat_eq (length block) 0)
    → after ≡ digits_after d (take count block) → KeepsShort d (take count block) before now
    → IfKnown old new (TakesOn d before now (cond ended None (Some after)))
ran d count taken after before now block ended None mid new limit front end same fits drops is within long test digits kept = tt
ran d count taken after before now block ended (Some text) None new limit front end same fits drops is within long test digits kept = absurd same
ran d count taken after before now block ended (Some text) (Some left) new limit front end same fits drops is within long test digits kept =
    let new-is : new ≡ Some (drop taken left) = drops (fits_count limit fits) in
    let whole : text ≡ block ++ drop (length block) text = sym (take-append-drop (length block) text) ∙ ap (λ l. l ++ drop (length block) text) front in
    rw (new-is, same) (elim (cases_lt count (length block)) [
      | inl less ↦
          let yes : ended ≡ true = test ∙ ap (λ b. b || nat_eq (length block) 0) (lt-ltb count (length block) less) in
          let (piece, under) = ends_in block (drop (length block) text) (omega (arith, less, is)) in
          let one : taken ≡ prefix_len (is_other 10) block + 1 = omega (arith, long, is, less) in
          let first : first_piece text ≡ take count block = ap first_piece whole ∙ piece ∙ ap (λ n. take n block) (sym is) in
          rw yes (
            puts_as (short_from d (first_piece text)) (short_from d (take count block)) before now (ap (short_from d) first) kept,
            ap (drop taken) whole ∙ ap (λ n. drop n (block ++ drop (length block) text)) one ∙ sym under ∙ ap after_line (sym whole),
          )
      | inr more ↦
          let no : nat_lt count (length block) ≡ false = le-ltb count (length block) more in
          let all : count ≡ length block = omega (arith, more, within) in
          elim (nat_eq (length block) 0) as (λ b. nat_eq (length block) 0 ≡ b → TakesOn d before now (cond ended None (Some after)) text (drop taken text)) [
            | true ↦ λ e.
                let yes : ended ≡ true = test ∙ ap (λ b. b || nat_eq (length block) 0) no ∙ e in
                let none : text ≡ [] = end (eqb-true (length block) 0 e) in
                let zero_count : count ≡ 0 = omega (arith, all, eqb-true (length block) 0 e) in
                rw yes (
                  puts_as (short_from d (first_piece text)) (short_from d (take count block)) before now
                      (ap (λ t. short_from d (first_piece t)) none ∙ ap (λ n. short_from d (take n block)) (sym zero_count)) kept,
                  drop_nothing taken text none ∙ ap after_line (sym none),
                )
            | false ↦ λ e.
                let go : ended ≡ false = test ∙ ap (λ b. b || nat_eq (length block) 0) no ∙ e in
                let all_taken : taken ≡ count = omega (arith, long, all) in
                let part : take count text ≡ take count block = ap (λ n. take n text) all ∙ front
                ∙ sym (take_all count block (omega (arith, all))) in
                rw go (
                  take count block,
                  sym (take-append-drop count text) ∙ ap (λ l. l ++ drop count text) part ∙ ap (λ n. take count block ++ drop n text) (sym all_taken),
                  ap (λ n. list_all (is_other 10) (take n block)) is ∙ run_passes (is_other 10) block,
                  digits,
                  kept,
                )
          ] refl
    ])
  where
    fits_count : (limit : Option ℕ) → IfSome limit (λ n. length block ≤ n) → IfSome limit (λ n. taken ≤ n)
    fits_count None fits = tt
    fits_count (Some n) fits = omega (arith, fits, long)

-- ---- the line

piece_run : (run text : List ℕ) → list_all (is_other 10) run ≡ true → (first_piece (run ++ text) ≡ run ++ first_piece text) × (after_line (run ++ text) ≡ after_line text)
piece_run [] text all = (refl, refl)
piece_run (b ∷ run) text all =
    let h = and_parts (is_other 10 b) (list_all (is_other 10) run) all in
    let (piece, under) = piece_run run text h.1 in
    elim (b == 10) as (λ c. not c ≡ true → (cond c [] (b ∷ first_piece (run ++ text)) ≡ b ∷ run ++ first_piece text)
    × (cond c (run ++ text) (after_line (run ++ text)) ≡ after_line text)) [
      | true ↦ λ e. absurd cc
      | false ↦ λ e. (ap (λ l. b ∷ l) piece, under)
    ] h.0

-- the line so far
pub record TakesSo (kept : List ℕ) (digits : ℕ) (text left : List ℕ) : Type 0 where
  pub run : List ℕ
  pub cut : text ≡ run ++ left
  pub all : list_all (is_other 10) run ≡ true
  pub so : KeptSo 0 run [] kept digits

pub takes_none : (old : Option (List ℕ)) (kept : List ℕ) → kept ≡ [] → IfKnown old old (TakesSo kept 0)
takes_none None kept none = tt
takes_none (Some text) kept none = record {
  run = [];
  cut = refl;
  all = refl;
  so = subst (λ k. KeptSo 0 [] [] k 0) (sym none) (kept_none 0 []);
}

pub takes_more : (kept now : List ℕ) (digits after : ℕ) (old mid new : Option (List ℕ)) → IfKnown old mid (TakesSo kept digits)
    → IfKnown mid new (TakesOn digits kept now (Some after)) → IfKnown old new (TakesSo now after)
takes_more kept now digits after old mid new so on =
    known_then {P = TakesSo kept digits} {Q = TakesOn digits kept now (Some after)} {R = TakesSo now after} old mid new so on
    (λ text left rest s (run, cut, all, count, keeps). record {
      run = s.run ++ run;
      cut = s.cut ∙ ap (λ l. s.run ++ l) cut ∙ sym (append_assoc s.run run rest);
      all = list_all-append (is_other 10) s.run run ∙ rw (s.all, all) refl;
      so = record {
        digits = count ∙ ap (λ n. digits_after n run) s.so.digits ∙ sym (digits_both 0 s.run run);
        kept = puts_as (short_from 0 (s.run ++ run)) (short_from 0 s.run ++ short_from digits run) [] now
            (short_both 0 s.run run ∙ ap (λ n. short_from 0 s.run ++ short_from n run) (sym s.so.digits))
            (puts_both (short_from 0 s.run) (short_from digits run) [] kept now s.so.kept keeps);
      };
    })

pub takes_all : (kept now : List ℕ) (digits : ℕ) (old mid new : Option (List ℕ)) → IfKnown old mid (TakesSo kept digits)
    → IfKnown mid new (TakesOn digits kept now None) → IfKnown old new (TakesShort now)
takes_all kept now digits old mid new so on =
    known_then {P = TakesSo kept digits} {Q = TakesOn digits kept now None} {R = TakesShort now} old mid new so on
    (λ text left rest s (keeps, after).
    let (piece, under) = piece_run s.run left s.all in
    let both : short (first_piece text) ≡ short_from 0 s.run ++ short_from digits (first_piece left) =
    ap (λ t. short (first_piece t)) s.cut ∙ ap short piece ∙ short_both 0 s.run (first_piece left)
    ∙ ap (λ n. short_from 0 s.run ++ short_from n (first_piece left)) (sym s.so.digits) in (
      puts_both (short_from 0 s.run) (short_from digits (first_piece left)) [] kept now s.so.kept keeps [] (sym (take_all LONGEST_LINE [] (omega arith)))
          ∙ ap (take LONGEST_LINE) (sym both),
      after ∙ sym under ∙ ap after_line (sym s.cut),
    ))
