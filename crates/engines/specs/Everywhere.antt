-- Questions about all states that can be reached, and what is told of them in one line.
use Rattle.std.specs.Prelude.{◌≡◌, ℕ, ◌<◌, ◌↔◌, Bool, true, false, not, ◌&&◌, List, ◌++◌, IsTrue, Result, MatchResult, codes, decimal}
use Rattle.std.specs.Option.{is_some}
use Rattle.text.specs.Pieces.{line_end}
use Rattle.text.specs.Taken.{Adds, Taken}
use Rattle.text.specs.Wrote.{WroteFront}
use Rattle.text.specs.declared.write_loop.WriteFault.{WriteFault}
use Rattle.systems.specs.System.{System}
use Rattle.calculus.specs.Tree.{Formula}
use Rattle.calculus.specs.Meaning.{Satisfies}
use Rattle.calculus.specs.Nodes.{Node}
use Rattle.witness.specs.Walk.{CanBeReached, CountsReached, is_marked}
use Rattle.why.specs.Everywhere.{asked_part, is_greatest, shape_of_node}
use Rattle.requests.specs.Report.{formula_line}
use Rattle.requests.specs.declared.error.MuError.{MuError}
use Rattle.requests.specs.declared.error.MuError.TheVariants as error

-- The normal form is `nu X. (f && [true]X)`, where the answer is yes, and `mu X. (f || <true>X)`, where it is no, with its parts in either order.
abbrev pub asks_of_states : List Node → (answer : Bool) → Bool
asks_of_states nodes true = is_greatest (shape_of_node nodes 0) && is_some (asked_part nodes 0)
asks_of_states nodes false = not (is_greatest (shape_of_node nodes 0)) && is_some (asked_part nodes 0)

-- The formula asks so of all states that can be reached, and each of them has this answer.
pub record HaveAnswer (l : System) (nodes : List Node) (f : Formula) (answer : Bool) : Type 0 where
  pub asks : IsTrue (asks_of_states nodes answer)
  pub same : (s : ℕ) → s < l.states → CanBeReached l l.initial s → IsTrue answer ↔ Satisfies l f s

-- So it is of the marks of all states.
pub record HaveMark (l : System) (nodes : List Node) (marks : List Bool) : Type 0 where
  pub asks : IsTrue (asks_of_states nodes (is_marked marks l.initial))
  pub same : (s : ℕ) → s < l.states → CanBeReached l l.initial s → is_marked marks s ≡ is_marked marks l.initial

abbrev pub answer_front : Bool → List ℕ
answer_front true = codes "initial yes: holds in all "
answer_front false = codes "initial no: holds in none of the "

-- the formula, its answer at the initial state, and that it is the answer at all states that can be reached, of which there are so many
abbrev pub answer_text : Formula → Bool → (count : ℕ) → List ℕ
answer_text f answer count = formula_line f ++ (answer_front answer ++ (decimal count ++ (codes " states that can be reached" ++ line_end)))

-- The text tells how many states can be reached, and that they have the answer.
pub record TellsAll (l : System) (f : Formula) (answer : Bool) (text : List ℕ) : Type 0 where
  pub count : ℕ
  pub reached : CountsReached l l.initial count
  pub is : text ≡ answer_text f answer count

-- All of the text was written, and this is the answer; or a beginning of it was, and the refusal says so.
abbrev pub IsToldIn : (old new : Taken) → (text : List ℕ) → (answer : Bool) → Result Bool MuError → Type 0
IsToldIn old new text answer result = MatchResult result (λ given. (given ≡ answer) × Adds old new text)
    (λ e. (fault : WriteFault) × (e ≡ error.Write fault) × WroteFront old new text)
