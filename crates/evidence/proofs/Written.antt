-- The lines of evidence, as they are written.
use Rattle.std.proofs.Common.{◌≡◌, ℕ, suc, ◌+◌, ◌<◌, List, [], ◌∷◌, ◌++◌, Option, Some, None, length, decimal, refl, ap, ap₂, subst, sym, ◌∙◌}
use Rattle.std.proofs.Common.{slice_index, slice_index_or, arith, codes}
use Rattle.std.proofs.lemmas.Fmt.{decimal_digit}
use Rattle.text.specs.Pieces.{line_end}
use Rattle.measures.specs.MeasureText.{counts_text}
use Rattle.text.specs.Wrote.{lines_from}
use Rattle.evidence.specs.Canon.{entry_lines, entry_line_at, entry_line_of}
use Rattle.evidence.specs.Evidence.{Entry}

-- a rank that is one zero
pub zero_text : (rank : List ℕ) → length rank ≡ 1 → slice_index rank 0 ≡ 0 → codes " (0)\n" ≡ codes " " ++ (counts_text rank ++ line_end)
zero_text [] one zero = absurd (omega arith)
zero_text (x ∷ []) one zero = ap (λ digits. 32 ∷ 40 ∷ ((digits ++ 41 ∷ []) ++ line_end)) (sym (ap decimal zero ∙ decimal_digit 0 (omega arith)))
zero_text (x ∷ y ∷ rank) one zero = absurd (omega arith)

-- ---- lines by number

first_line : (line : ℕ → List ℕ) (v : ℕ) (x : Option Entry) (xs : List (Option Entry)) → line v ≡ entry_line_of v x
    → lines_from line (v + 1) (length xs) ≡ entry_lines (v + 1) xs → line v ++ lines_from line (v + 1) (length xs) ≡ entry_lines v (x ∷ xs)
first_line line v None xs e rest = ap₂ (λ a b. a ++ b) e rest
first_line line v (Some x) xs e rest = ap₂ (λ a b. a ++ b) e rest

more_lines : (line : ℕ → List ℕ) (v : ℕ) (entries : List (Option Entry))
    → ((i : ℕ) → i < length entries → line (v + i) ≡ entry_line_of (v + i) (slice_index_or entries i None))
    → lines_from line v (length entries) ≡ entry_lines v entries
more_lines line v [] each = refl
more_lines line v (x ∷ xs) each =
    let none_more : v + 0 ≡ v = omega arith in
    let one_more : (i : ℕ) → v + suc i ≡ (v + 1) + i = λ i. omega arith in
    let rest = more_lines line (v + 1) xs (λ i h. subst (λ n. line n ≡ entry_line_of n (slice_index_or xs i None)) (one_more i) (each (suc i) (omega (arith, h)))) in
    first_line line v x xs (subst (λ n. line n ≡ entry_line_of n x) none_more (each 0 (omega arith))) rest

-- the lines of all entries are the text's
pub all_lines : (entries : List (Option Entry)) → lines_from (entry_line_at entries) 0 (length entries) ≡ entry_lines 0 entries
all_lines entries = more_lines (entry_line_at entries) 0 entries here
  where
    here : (i : ℕ) → i < length entries → entry_line_at entries (0 + i) ≡ entry_line_of (0 + i) (slice_index_or entries i None)
    here i h = let same : 0 + i ≡ i = omega arith in rw same refl
