-- The lines of a report.
use Rattle.std.proofs.Common.{◌≡◌, ◌+◌, ◌-◌, ◌<◌, ◌≤◌, ℕ, zero, suc, Bool, true, false, true≢false, List, [], ◌∷◌, ◌++◌, length, drop, take, get_or, decimal, arith, refl}
use Rattle.std.proofs.Common.{sym, ap, ◌∙◌, append_assoc, add-one}
use Rattle.std.proofs.Math.Seq.{drop-cons}
use Rattle.std.proofs.Math.ListN.{drop_of_length-le}
use Rattle.std.proofs.lemmas.List.{take_all}
use Rattle.text.specs.Pieces.{line_end}
use Rattle.requests.specs.Report.{is_mark, number_lines, numbers_with, state_lines, mark_end}

-- the lines from a state on begin with that state's
pub next_line : (marks : List Bool) (s : ℕ) → s < length marks
    → state_lines s (drop s marks) ≡ (decimal s ++ mark_end (get_or marks s false)) ++ state_lines (s + 1) (drop (s + 1) marks)
next_line marks s h =
    let mark = mark_end (get_or marks s false) in
    let rest = state_lines (s + 1) (drop (s + 1) marks) in
    let first : state_lines s (drop s marks) ≡ decimal s ++ (mark ++ rest) = rw (drop-cons marks s false, add-one s) refl in
    first ∙ sym (append_assoc (decimal s) mark rest)

-- past the last state no lines are left
pub no_lines : (marks : List Bool) (s : ℕ) → length marks ≤ s → state_lines s (drop s marks) ≡ []
no_lines marks s h = ap (state_lines s) (drop_of_length-le marks h)

-- ------------------------------------------------------------------ numbers of states

-- a state that has the mark is the first of the numbers
listed : (wanted mark : Bool) (s : ℕ) (marks : List Bool) → is_mark wanted mark ≡ true
    → numbers_with wanted s (mark ∷ marks) ≡ s ∷ numbers_with wanted (s + 1) marks
listed true true s marks h = refl
listed true false s marks h = absurd (true≢false (sym h))
listed false true s marks h = absurd (true≢false (sym h))
listed false false s marks h = refl

passed : (wanted mark : Bool) (s : ℕ) (marks : List Bool) → is_mark wanted mark ≡ false
    → numbers_with wanted s (mark ∷ marks) ≡ numbers_with wanted (s + 1) marks
passed true true s marks h = absurd (true≢false h)
passed true false s marks h = refl
passed false true s marks h = refl
passed false false s marks h = absurd (true≢false h)

-- the marks from a state on
from_state : (marks : List Bool) (s : ℕ) → s < length marks → drop s marks ≡ get_or marks s false ∷ drop (s + 1) marks
from_state marks s h = rw (drop-cons marks s false, add-one s) refl

take_next : (left n : ℕ) (ns : List ℕ) → 1 ≤ left → take left (n ∷ ns) ≡ n ∷ take (left - 1) ns
take_next zero n ns h = absurd (omega (arith, h))
take_next (suc k) n ns h =
    let e : suc k - 1 ≡ k = omega arith in
    rw e refl

-- the lines from a state on begin with that state's where it has the mark
pub next_number : (wanted : Bool) (marks : List Bool) (s left : ℕ) → s < length marks → 1 ≤ left → is_mark wanted (get_or marks s false) ≡ true
    → number_lines (take left (numbers_with wanted s (drop s marks)))
    ≡ (decimal s ++ line_end) ++ number_lines (take (left - 1) (numbers_with wanted (s + 1) (drop (s + 1) marks)))
next_number wanted marks s left h some is =
    let rest = numbers_with wanted (s + 1) (drop (s + 1) marks) in
    let all : numbers_with wanted s (drop s marks) ≡ s ∷ rest =
    ap (numbers_with wanted s) (from_state marks s h) ∙ listed wanted (get_or marks s false) s (drop (s + 1) marks) is in
    let first : number_lines (take left (numbers_with wanted s (drop s marks))) ≡ decimal s ++ (line_end ++ number_lines (take (left - 1) rest)) =
    ap (λ ns. number_lines (take left ns)) all ∙ ap number_lines (take_next left s rest some) in
    first ∙ sym (append_assoc (decimal s) line_end (number_lines (take (left - 1) rest)))

-- where none is left to be written, there are no lines
pub none_left : (left : ℕ) (ns ms : List ℕ) → left ≡ 0 → number_lines (take left ns) ≡ number_lines (take left ms)
none_left left ns ms e = rw e refl

-- past the last state there are none
pub no_numbers : (wanted : Bool) (marks : List Bool) (s left : ℕ) → length marks ≤ s → number_lines (take left (numbers_with wanted s (drop s marks))) ≡ []
no_numbers wanted marks s left h =
    ap (λ ms. number_lines (take left (numbers_with wanted s ms))) (drop_of_length-le marks h) ∙ nothing left
  where
    nothing : (k : ℕ) → number_lines (take k []) ≡ []
    nothing zero = refl
    nothing (suc k) = refl

-- there are no more numbers than states
few_numbers : (wanted : Bool) (s : ℕ) (marks : List Bool) → length (numbers_with wanted s marks) ≤ length marks
few_numbers wanted s [] = omega arith
few_numbers true s (true ∷ marks) = omega (arith, few_numbers true (s + 1) marks)
few_numbers true s (false ∷ marks) = omega (arith, few_numbers true (s + 1) marks)
few_numbers false s (true ∷ marks) = omega (arith, few_numbers false (s + 1) marks)
few_numbers false s (false ∷ marks) = omega (arith, few_numbers false (s + 1) marks)

-- so all of them are taken
pub all_numbers : (wanted : Bool) (marks : List Bool) → take (length marks) (numbers_with wanted 0 marks) ≡ numbers_with wanted 0 marks
all_numbers wanted marks = take_all (length marks) (numbers_with wanted 0 marks) (few_numbers wanted 0 marks)
