-- What a table tells of each formula: a line, and the status that it comes to.
use Rattle.std.specs.Prelude.{◌≡◌, ℕ, ◌||◌, ◌&&◌, ◌==◌, nat_eq, Bool, true, false, not, List, [], ◌∷◌, ◌++◌, ◌⊎◌, length, drop, count_by, codes}
use Rattle.std.specs.Prelude.{decimal, Option, Some, None, Result, IfOk, if◌then◌else◌}
use Rattle.std.specs.List.{slice_index_or, starts_with}
use Rattle.text.specs.Cause.{HasCause}
use Rattle.text.specs.Taken.{Taken}
use Rattle.text.specs.Tokens.{past_blanks}
use Rattle.text.specs.Wrote.{Wrote}
use Rattle.text.specs.declared.write_loop.WriteFault.{WriteFault}
use Rattle.systems.specs.System.{System}
use Rattle.calculus.specs.Tree.{Formula}
use Rattle.formula.specs.Checked.{IsTold}
use Rattle.formula.specs.declared.error.FormulaError.TheVariants as formula
use Rattle.formula.specs.declared.error.FormulaFault.{FormulaFault}
use Rattle.formula.specs.declared.error.FormulaFault.TheVariants as fault
use Rattle.normal.specs.declared.error.NormalError.TheVariants as normal
use Rattle.game.specs.declared.error.BuildError.TheVariants as game
use Rattle.tables.specs.declared.error.TableError.TheVariants as table
use Rattle.requests.specs.declared.error.MuError.{MuError}
use Rattle.requests.specs.declared.error.MuError.TheVariants as error
use Rattle.requests.specs.declared.request.Options.{Options}
use Rattle.requests.specs.Check.{Way, BySets, ByGame, AreMarks, IsBeyond}
use Rattle.requests.specs.Known.{AreKnown, IsAbsentAt}
use Rattle.text.specs.Pieces.{line_end}
use Rattle.requests.specs.Texts.{IsFormulaOf}
use Rattle.requests.specs.Status.{error_status}
use Rattle.table_lines.specs.declared.table.LineAnswer.{LineAnswer}

-- ------------------------------------------------------------------ what a formula's text wants

-- a line ends here: by LF, by CR and LF, or with the text
abbrev pub is_line_end : List ℕ → Bool
is_line_end [] = true
is_line_end (b ∷ []) = b == 10
is_line_end (b ∷ c ∷ rest) = b == 10 || (b == 13 && c == 10)

-- the text's first line is this one, but for blanks at its end
abbrev pub has_first_line : (text line : List ℕ) → Bool
has_first_line text line = starts_with nat_eq text line && is_line_end (past_blanks (drop (length line) text))

-- the answer that is expected, where the first line says so
abbrev pub expectation : (text : List ℕ) → Option Bool
expectation text =
    if has_first_line text (codes "% expect yes") then Some true else (if has_first_line text (codes "% expect no") then Some false else None)

-- the answer is as expected; where nothing is said, yes is
abbrev pub is_as_expected : Option Bool → (answer : Bool) → Bool
is_as_expected None answer = answer
is_as_expected (Some true) answer = answer
is_as_expected (Some false) answer = not answer

-- ------------------------------------------------------------------ the lines

-- what is said of an answer where one is expected
abbrev pub remark : Option Bool → (answer : Bool) → List ℕ
remark None answer = []
remark (Some expected) answer = if is_as_expected (Some expected) answer then codes " as expected" else codes " UNEXPECTED"

-- the initial state's answer, how many states of how many satisfy the formula, the file's name, and whether that was expected
abbrev pub answer_line : (name : List ℕ) → (expected : Option Bool) → (answer : Bool) → (marked states : ℕ) → List ℕ
answer_line name expected answer marked states =
    (if answer then codes "yes " else codes "no ") ++ (decimal marked ++ (codes " of " ++ (decimal states ++ (codes " " ++ (name
    ++ (remark expected answer ++ line_end))))))

abbrev pub fault_code : FormulaFault → List ℕ
fault_code fault.NoToken = codes "F1"
fault_code fault.Unexpected = codes "F2"
fault_code fault.Unfinished = codes "F3"
fault_code fault.ReservedWord = codes "F4"
fault_code fault.Unbound = codes "F5"
fault_code fault.OddNegations = codes "F6"
fault_code fault.NotAnAction = codes "F7"
fault_code fault.TooLarge = codes "F8"

-- the code of a refusal that a formula can have
abbrev pub code_of : MuError → List ℕ
code_of error.Read = codes "U3"
code_of error.Memory = codes "U4"
code_of (error.Formula (formula.Fault fault offset)) = fault_code fault
code_of (error.Formula formula.Memory) = codes "F9"
code_of (error.Normal normal.TooManyNodes) = codes "N1"
code_of (error.Normal normal.PriorityTooGreat) = codes "N2"
code_of (error.Normal normal.Memory) = codes "N3"
code_of (error.Build game.TooManyVertices) = codes "B1"
code_of (error.Build game.Memory) = codes "B2"
code_of (error.Table table.TooManyRanks) = codes "T1"
code_of (error.Table table.Memory) = codes "T2"
code_of (error.Table table.NoSeat) = codes "T3"
code_of (error.Solve e) = codes "V1"
code_of (error.NoLabel offset) = codes "L1"
code_of _ = []

-- the place in the formula's text, where the refusal has one
abbrev pub place_of : MuError → List ℕ
place_of (error.Formula (formula.Fault fault offset)) = codes " at offset " ++ decimal offset
place_of (error.NoLabel offset) = codes " at offset " ++ decimal offset
place_of _ = []

-- the refusal's code, its place, and the file's name
abbrev pub refusal_line : (name : List ℕ) → MuError → List ℕ
refusal_line name e = code_of e ++ (place_of e ++ (codes " " ++ (name ++ line_end)))

-- ------------------------------------------------------------------ the theorem

-- by sets of states where it is plain, else by the game
abbrev pub way_by : Options → (plain : Bool) → Way
way_by options plain = if plain then BySets else ByGame options.priorities (Some options.board)

-- why a formula has no answer: its text, a word of it that is on no transition, where that is asked about, or a limit that is passed with this system
abbrev pub IsRefused : (strict : Bool) → Way → System → (text : List ℕ) → MuError → Type 0
IsRefused strict way l text error.Read = Unit {0}
IsRefused strict way l text error.Memory = Unit {0}
IsRefused strict way l text (error.Formula e) = IsTold text e
IsRefused strict way l text (error.NoLabel place) = (f : Formula) × IsFormulaOf text f × IsAbsentAt strict l text place
IsRefused strict way l text e = (f : Formula) × IsFormulaOf text f × IsBeyond way l f e × AreKnown strict l text

-- What is found of a text: the initial state's answer in the meaning of the formula that it spells, the number of states in it, and what the first line says
-- is expected. Where its words are asked about, each is on a transition.
pub record IsFound (strict : Bool) (way : Way) (l : System) (text : List ℕ) (x : LineAnswer) : Type 0 where
  pub f : Formula
  pub marks : List Bool
  pub formula : IsFormulaOf text f
  pub known : AreKnown strict l text
  pub found : AreMarks way l f marks
  pub expected : x.expected ≡ expectation text
  pub answer : x.answer ≡ slice_index_or marks l.initial false
  pub marked : x.marked ≡ count_by (λ mark. mark) marks

-- The line has that.
pub record IsAnswer (strict : Bool) (way : Way) (l : System) (name text line : List ℕ) (status : ℕ) : Type 0 where
  pub x : LineAnswer
  pub found : IsFound strict way l text x
  pub told : line ≡ answer_line name x.expected x.answer x.marked l.states
  pub ends : status ≡ (if is_as_expected x.expected x.answer then 0 else 1)

-- The line has the refusal. That a read of the formula failed is told where one can fail.
pub record IsRefusedLine (strict : Bool) (way : Way) (l : System) (can_fail : Bool) (name text line : List ℕ) (status : ℕ) : Type 0 where
  pub e : MuError
  pub refused : IsRefused strict way l text e
  pub cause : HasCause can_fail error.Read e
  pub told : line ≡ refusal_line name e
  pub ends : status ≡ error_status e

-- the line of a formula's text, and its status
abbrev pub IsTableLine : (strict : Bool) → Way → System → (can_fail : Bool) → (name text line : List ℕ) → (status : ℕ) → Type 0
IsTableLine strict way l can_fail name text line status = IsAnswer strict way l name text line status ⊎ IsRefusedLine strict way l can_fail name text line status

-- Such a line was written, whole where its status is answered, else a beginning of it.
pub record HasTold (strict : Bool) (way : Way) (l : System) (can_fail : Bool) (name text : List ℕ) (old new : Taken) (result : Result ℕ WriteFault) : Type 0 where
  pub line : List ℕ
  pub status : ℕ
  pub is : IsTableLine strict way l can_fail name text line status
  pub written : Wrote old new result line
  pub answered : IfOk result (λ given. given ≡ status)

-- what a call for a line says of the formula's reader and of the writer
abbrev pub TellsLine : (strict : Bool) → Way → System → (can_fail : Bool) → (name : List ℕ) → (formula : Option (List ℕ)) → (old new : Taken) → Result ℕ WriteFault → Type 0
TellsLine strict way l can_fail name formula old new result = (text : List ℕ) → formula ≡ Some text → HasTold strict way l can_fail name text old new result
