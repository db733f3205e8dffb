-- The report of a check.
use Rattle.std.specs.Prelude.{ℕ, ◌+◌, Bool, false, not, List, [], ◌∷◌, ◌++◌, Option, Some, None, length, take, count_by, codes, decimal, if◌then◌else◌}
use Rattle.std.specs.List.{slice_index_or}
use Rattle.text.specs.Pieces.{line_end}
use Rattle.systems.specs.System.{System}
use Rattle.calculus.specs.Tree.{Formula}
use Rattle.calculus.specs.Canon.{canon}
use Rattle.requests.specs.declared.request.ReportForm.{ReportForm}
use Rattle.requests.specs.declared.request.ReportForm.TheVariants.{Whole, Summary, States, Nothing}

-- with the numbers of states and of transitions, and the initial state
abbrev pub system_line : ℕ → ℕ → ℕ → List ℕ
system_line states transitions initial =
    codes "system " ++ (decimal states ++ (codes " states " ++ (decimal transitions ++ (codes " transitions initial " ++ (decimal initial ++ line_end)))))

abbrev pub formula_line : Formula → List ℕ
formula_line f = codes "formula " ++ (canon f ++ line_end)

-- how many states of how many are marked
abbrev pub yes_line : ℕ → ℕ → List ℕ
yes_line marked states = codes "yes " ++ (decimal marked ++ (codes " of " ++ (decimal states ++ line_end)))

-- the end of a line that tells a mark
abbrev pub mark_end : Bool → List ℕ
mark_end mark = (if mark then codes " yes" else codes " no") ++ line_end

abbrev pub initial_line : Bool → List ℕ
initial_line mark = codes "initial" ++ mark_end mark

-- a line for each state from s on
abbrev pub state_lines : ℕ → List Bool → List ℕ
state_lines s [] = []
state_lines s (mark ∷ marks) = decimal s ++ (mark_end mark ++ state_lines (s + 1) marks)

-- the lines before those of the states, where these states are marked yes
abbrev pub summary : System → Formula → List Bool → List ℕ
summary l f marks =
    system_line l.states (length l.arrows) l.initial ++ (formula_line f
    ++ (yes_line (count_by (λ mark. mark) marks) l.states ++ initial_line (slice_index_or marks l.initial false)))

-- the report where these states are marked yes
abbrev pub report : System → Formula → List Bool → List ℕ
report l f marks = summary l f marks ++ state_lines 0 marks

-- this is the mark that is looked for
abbrev pub is_mark : (wanted mark : Bool) → Bool
is_mark wanted mark = if wanted then mark else not mark

-- the numbers of the states with this mark, from s on
abbrev pub numbers_with : (wanted : Bool) → ℕ → List Bool → List ℕ
numbers_with wanted s [] = []
numbers_with wanted s (mark ∷ marks) = if is_mark wanted mark then s ∷ numbers_with wanted (s + 1) marks else numbers_with wanted (s + 1) marks

-- all of them, or so many from the first on
abbrev pub at_most : Option ℕ → List ℕ → List ℕ
at_most None numbers = numbers
at_most (Some most) numbers = take most numbers

-- a line for each number
abbrev pub number_lines : List ℕ → List ℕ
number_lines [] = []
number_lines (n ∷ numbers) = decimal n ++ (line_end ++ number_lines numbers)

-- what is written in each form of the report
abbrev pub report_in : ReportForm → System → Formula → List Bool → List ℕ
report_in Whole l f marks = report l f marks
report_in Summary l f marks = summary l f marks
report_in (States mark most) l f marks = number_lines (at_most most (numbers_with mark 0 marks))
report_in Nothing l f marks = []
