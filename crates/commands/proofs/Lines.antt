-- The lines of the winners.
use Rattle.std.proofs.Common.{◌≡◌, ◌+◌, ℕ, suc, Bool, List, [], ◌∷◌, ◌++◌, Some, length, decimal, refl, sym, ap, ap₂, subst, ◌∙◌, append_assoc, arith}
use Rattle.std.specs.Prelude.{slice_get}
use Rattle.text.specs.Wrote.{lines_from}
use Rattle.commands.specs.Winners.{even_or_odd, winner_line_at, winner_line, winner_lines}

-- Where the line of each number is that of the mark there, the lines are those of the marks.
lines_of : (line : ℕ → List ℕ) (v : ℕ) (marks : List Bool)
    → ((i : ℕ) (mark : Bool) → slice_get marks i ≡ Some mark → line (v + i) ≡ decimal (v + i) ++ even_or_odd mark)
    → lines_from line v (length marks) ≡ winner_lines v marks
lines_of line v [] each = refl
lines_of line v (mark ∷ marks) each =
    let none_more : v + 0 ≡ v = omega arith in
    let one_more : (i : ℕ) → v + suc i ≡ (v + 1) + i = λ i. omega arith in
    let rest = lines_of line (v + 1) marks (λ i m h. subst (λ n. line n ≡ decimal n ++ even_or_odd m) (one_more i) (each (suc i) m h)) in
    let first = subst (λ n. line n ≡ decimal n ++ even_or_odd mark) none_more (each 0 mark refl) in
    ap₂ (λ a b. a ++ b) first rest ∙ append_assoc (decimal v) (even_or_odd mark) (winner_lines (v + 1) marks)

-- the lines by number are all of them
pub all_lines : (marks : List Bool) → lines_from (winner_line_at marks) 0 (length marks) ≡ winner_lines 0 marks
all_lines marks = lines_of (winner_line_at marks) 0 marks
    (λ i mark h. (let same : 0 + i ≡ i = omega arith in ap (winner_line_at marks) same ∙ (ap (winner_line i) h ∙ ap (λ n. decimal n ++ even_or_odd mark) (sym same))))
