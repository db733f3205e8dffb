-- What the program finds on a line, step by step.
use Rattle.std.proofs.Common.{◌≡◌, ℕ, suc, ◌+◌, ◌-◌, ◌<◌, ◌≤◌, Bool, true, false, cond, MatchBool, List, [], ◌∷◌, ◌++◌, length, take, set, Option, Some}
use Rattle.std.proofs.Common.{None, codes, refl, sym, ap, ap₂, ◌∙◌, arith, append_assoc, append-nil, add-one, inl, inr}
use Rattle.std.specs.Prelude.{nat_le}
use Rattle.std.specs.Str.{bytes_eq}
use Rattle.std.proofs.lemmas.Bool.{false≢true, le-leb}
use Rattle.std.proofs.lemmas.List.{take_all}
use Rattle.std.proofs.lemmas.Bool.Decides.{leb_tells}
use Rattle.std.proofs.Math.Seq.{take-suc-set}
use Rattle.text.specs.Tokens.{cut_at, whole_number, ◌>>=◌}
use Rattle.evidence.specs.declared.limits.TheConstants.{GREATEST_COUNT}
use Rattle.evidence.specs.Scan.{count_before, counts_in, end_of, fields_of, move_of, number_of, read_move}
use Rattle.evidence.proofs.Scanned.{whole_none, whole_some}

-- ---- moves

pub no_move : (bytes : List ℕ) → bytes_eq bytes (codes "-") ≡ false → whole_number bytes ≡ None → move_of bytes ≡ None
unfolding move_of
no_move bytes other none = rw (other, whole_none bytes none) refl

pub dash_move : (bytes : List ℕ) → bytes_eq bytes (codes "-") ≡ true → move_of bytes ≡ Some None
unfolding move_of
dash_move bytes same = rw same refl

pub some_move : (bytes : List ℕ) (v : ℕ) → bytes_eq bytes (codes "-") ≡ false → whole_number bytes ≡ Some v → (move : Option ℕ) × (move_of bytes ≡ Some move)
    × (Some v ≡ read_move move)
unfolding move_of
some_move bytes v other found = let (n, number, e) = whole_some bytes v found in (Some n, rw (other, number) refl, ap (λ k. Some k) e)

-- ---- fields

module _ (line x rest : List ℕ) where
  pub no_space : cut_at 32 line ≡ None → fields_of line ≡ None
  unfolding fields_of
  no_space e = rw e refl

  pub one_space : cut_at 32 line ≡ Some (x, rest) → cut_at 32 rest ≡ None → fields_of line ≡ None
  unfolding fields_of
  one_space e f = rw (e, f) refl

  pub no_vertex : (y r : List ℕ) → cut_at 32 line ≡ Some (x, rest) → cut_at 32 rest ≡ Some (y, r) → number_of x ≡ None → fields_of line ≡ None
  unfolding fields_of
  no_vertex y r e f h = rw (e, f, h) refl

  pub no_next : (y r : List ℕ) (n : ℕ) → cut_at 32 line ≡ Some (x, rest) → cut_at 32 rest ≡ Some (y, r) → number_of x ≡ Some n → move_of y ≡ None
      → fields_of line ≡ None
  unfolding fields_of
  no_next y r n e f h k = rw (e, f, h, k) refl

  pub all_fields : (y r : List ℕ) (n : ℕ) (m : Option ℕ) → cut_at 32 line ≡ Some (x, rest) → cut_at 32 rest ≡ Some (y, r) → number_of x ≡ Some n
      → move_of y ≡ Some m → fields_of line ≡ Some (n, m, r)
  unfolding fields_of
  all_fields y r n m e f h k = rw (e, f, h, k) refl

-- ---- counts

module _ (end : ℕ) (bytes x rest : List ℕ) where
  pub no_end : cut_at end bytes ≡ None → count_before end bytes ≡ None
  unfolding count_before
  no_end e = rw e refl

  pub no_number : cut_at end bytes ≡ Some (x, rest) → whole_number x ≡ None → count_before end bytes ≡ None
  unfolding count_before
  no_number e h = rw (e, whole_none x h) refl

  pub too_great : (v : ℕ) → cut_at end bytes ≡ Some (x, rest) → whole_number x ≡ Some v → GREATEST_COUNT < v → count_before end bytes ≡ None
  unfolding count_before
  too_great v e h past =
      let (n, number, is) = whole_some x v h in
      let test : cond (nat_le n GREATEST_COUNT) (Some (n, rest)) None
      ≡ None = elim (leb_tells n GREATEST_COUNT) [ inl w ↦ absurd (let small = w.1 in omega arith) | inr w ↦ rw w.0 refl ] in
      rw (e, number) test

  pub one_count : (v : ℕ) → cut_at end bytes ≡ Some (x, rest) → whole_number x ≡ Some v → v ≤ GREATEST_COUNT → count_before end bytes ≡ Some (v, rest)
  unfolding count_before
  one_count v e h small =
      let (n, number, is) = whole_some x v h in
      let same : n ≡ v = omega arith in
      rw (e, number, le-leb n GREATEST_COUNT (omega arith), same) refl

-- these counts, and then the ones that follow
abbrev pub with_front : List ℕ → Option (List ℕ) → Option (List ℕ)
with_front counts None = None
with_front counts (Some more) = Some (counts ++ more)

-- after k counts the others are still to be read
abbrev pub IsReadTo : List ℕ → List ℕ → ℕ → List ℕ → Type 0
IsReadTo bytes counts k rest = counts_in (length counts) bytes ≡ with_front (take k counts) (counts_in (length counts - k) rest)

pub comma_end : (k n : ℕ) → k + 1 < n → 44 ≡ end_of (n - (k + 1))
comma_end k n h = let e : n - (k + 1) ≡ suc (n - (k + 2)) = omega arith in ap end_of (sym e)

pub bracket_end : (k n : ℕ) → k < n → n ≤ k + 1 → 41 ≡ end_of (n - (k + 1))
bracket_end k n h l = let e : n - (k + 1) ≡ 0 = omega arith in ap end_of (sym e)

module _ (bytes counts : List ℕ) (k : ℕ) (rest : List ℕ) (so : IsReadTo bytes counts k rest) (inside : k < length counts) (end : ℕ)
    (is : end ≡ end_of (length counts - (k + 1))) where
  next_of : length counts - k ≡ suc (length counts - (k + 1))
  next_of = omega arith

  pub read_stops : count_before end rest ≡ None → counts_in (length counts) bytes ≡ None
  read_stops none =
      so
      ∙ (ap (λ n. with_front (take k counts) (counts_in n rest)) next_of
      ∙ ap (λ o. with_front (take k counts) (o >>= λ found. counts_in (length counts - (k + 1)) found.1 >>= λ more. Some (found.0 ∷ more)))
      (ap (λ b. count_before b rest) (sym is) ∙ none))

  pub read_more : (count : ℕ) (more new : List ℕ) → count_before end rest ≡ Some (count, more) → new ≡ set counts k count → length new ≡ length counts
      → IsReadTo bytes new (k + 1) more
  read_more count more new found e long =
      let left = length counts - (k + 1) in
      let step : counts_in (length counts) bytes ≡ with_front (take k counts) (counts_in left more >>= λ others. Some (count ∷ others)) =
      so
      ∙ (ap (λ n. with_front (take k counts) (counts_in n rest)) next_of
      ∙ ap (λ o. with_front (take k counts) (o >>= λ found. counts_in left found.1 >>= λ others. Some (found.0 ∷ others)))
      (ap (λ b. count_before b rest) (sym is) ∙ found)) in
      let front : take (k + 1) new ≡ take k counts ++ count ∷ [] = ap₂ take (add-one k) e ∙ take-suc-set counts k count inside in
      ap (λ n. counts_in n bytes) long ∙ (step ∙ (shift (take k counts) count (counts_in left more)
      ∙ (ap (λ l. with_front l (counts_in left more)) (sym front) ∙ ap (λ n. with_front (take (k + 1) new) (counts_in (n - (k + 1)) more)) (sym long))))
    where
      shift : (front : List ℕ) (c : ℕ) (o : Option (List ℕ)) → with_front front (o >>= λ others. Some (c ∷ others)) ≡ with_front (front ++ c ∷ []) o
      shift front c None = refl
      shift front c (Some others) = ap (λ l. Some l) (sym (append_assoc front (c ∷ []) others))

pub read_all : (bytes counts : List ℕ) (k : ℕ) (rest : List ℕ) (b : Bool) → IsReadTo bytes counts k rest → length counts ≤ k → (b ≡ true → length rest ≡ 0)
    → (length rest ≡ 0 → b ≡ true)
    → MatchBool b (counts_in (length counts) bytes ≡ Some counts) (counts_in (length counts) bytes ≡ None)
read_all bytes counts k [] true so past to from =
    let none : length counts - k ≡ 0 = omega arith in
    so ∙ (ap (λ n. with_front (take k counts) (counts_in n [])) none ∙ ap (λ l. Some l) (append-nil (take k counts) ∙ take_all k counts past))
read_all bytes counts k (c ∷ rest) true so past to from = absurd (omega (arith, to refl))
read_all bytes counts k [] false so past to from = absurd (false≢true (from refl))
read_all bytes counts k (c ∷ rest) false so past to from =
    let none : length counts - k ≡ 0 = omega arith in so ∙ ap (λ n. with_front (take k counts) (counts_in n (c ∷ rest))) none

-- ---- the rank
