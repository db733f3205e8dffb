-- What is told of why the initial state satisfies a formula, or doesn't.
use Rattle.std.specs.Prelude.{◌≡◌, ℕ, ◌+◌, ◌*◌, ◌↔◌, ◌⊎◌, ◌==◌, Bool, List, [], ◌∷◌, ◌++◌, Option, Result, MatchResult, IsTrue, map, slice_index_or, false, if◌then◌else◌}
use Rattle.text.specs.Taken.{Taken, Adds}
use Rattle.text.specs.Pieces.{line_end}
use Rattle.text.specs.Wrote.{WroteFront}
use Rattle.systems.specs.System.{System}
use Rattle.calculus.specs.Tree.{Formula}
use Rattle.calculus.specs.Meaning.{Satisfies}
use Rattle.calculus.specs.declared.limits.TheConstants.{MOST_NODES}
use Rattle.calculus.specs.declared.priorities.Priorities.{Priorities}
use Rattle.calculus.specs.Rules.{nodes_with}
use Rattle.calculus.specs.Nodes.{Node}
use Rattle.game.specs.Arena.{arena}
use Rattle.game.specs.Game.{Game}
use Rattle.evidence.specs.Evidence.{Evidence}
use Rattle.witness.specs.Witness.{IsWinners, root_of}
use Rattle.why.specs.Story.{AreHeads, IsCut, has_branch, modality_of, story_text, verdict_text}
use Rattle.why.specs.Telling.{IsTelling}
use Rattle.why.specs.declared.visit.Visit.{Visit}
use Rattle.workers.specs.declared.team.BoardKind.{BoardKind}
use Rattle.requests.specs.declared.error.MuError.{MuError}
use Rattle.requests.specs.declared.error.MuError.TheVariants as error
use Rattle.requests.specs.Check.{AreSpelled, ByGame, RefusesCheck, CanBeFound}
use Rattle.requests.specs.Report.{formula_line}
use Rattle.requests.specs.Writers.{WitnessText, lent_for}
use Rattle.engines.specs.declared.reasons.PlayVisits.{PlayVisits}
use Rattle.engines.specs.declared.play.PlayFound.{PlayFound}
use Rattle.engines.specs.Everywhere.{HaveAnswer, TellsAll}
use Rattle.engines.specs.Play.{formula_played, system_played}

-- how many visits are made at most: many enough for the lines that are told, of which there are at most so many, where that isn't 0
abbrev pub most_visits : (limit : ℕ) → ℕ
most_visits limit = if limit == 0 then 18446744073709551615 else (MOST_NODES + 1) * (limit + 1)

-- the formula, whether the initial state satisfies it, and the lines of the visits
abbrev pub reasons : Formula → Bool → System → List Node → (most : ℕ) → List Visit → (heads : List Bool) → (count : ℕ) → List ℕ
reasons f answer l nodes most visits heads count =
    formula_line f ++ ((verdict_text answer (has_branch visits) ++ line_end) ++ story_text l nodes most visits heads count)

-- The visits tell the play by the winner's evidence from the initial state on; the marks are those of visits to which a run comes back; and so many are told.
pub record AreTold (l : System) (nodes : List Node) (limit : ℕ) (visits : List Visit) (heads : List Bool) (count : ℕ) : Type 0 where
  pub evidence : Evidence
  pub winners : IsWinners l nodes evidence
  pub telling : IsTelling l nodes (arena l nodes) evidence (root_of l nodes) (most_visits limit) visits
  pub back : AreHeads visits heads
  pub cut : IsCut nodes visits heads limit count

-- The text tells the answer and a play that shows it, in at most so many lines, where that isn't 0.
pub record TellsPlay (rule : Priorities) (limit : ℕ) (l : System) (f : Formula) (answer : Bool) (text : List ℕ) : Type 0 where
  pub visits : List Visit
  pub heads : List Bool
  pub count : ℕ
  pub told : AreTold l (nodes_with rule f) limit visits heads count
  pub is : text ≡ reasons f answer l (nodes_with rule f) (most_visits limit) visits heads count

-- In one line where the formula asks of all states that can be reached, or whether there is one, and all of them have the answer; else with a play.
abbrev pub AreReasons : Priorities → (limit : ℕ) → System → Formula → (answer : Bool) → (text : List ℕ) → Type 0
AreReasons rule limit l f answer text =
    (HaveAnswer l (nodes_with rule f) f answer × TellsAll l f answer text)
    ⊎ ((HaveAnswer l (nodes_with rule f) f answer → ⊥) × TellsPlay rule limit l f answer text)

-- Both texts are spelled, the answer is that of the initial state in the formula's meaning, and what was written is this of a text that tells why.
pub record HasGivenReasons (rule : Priorities) (board : Option BoardKind) (limit : ℕ) (first second : List ℕ) (answer : Bool)
    (Writes : List ℕ → Type 0) : Type 0 where
  pub l : System
  pub f : Formula
  pub spelled : AreSpelled first second l f
  pub within : CanBeFound (ByGame rule board) l f
  pub answered : IsTrue answer ↔ Satisfies l f l.initial
  pub text : List ℕ
  pub why : AreReasons rule limit l f answer text
  pub written : Writes text

-- A refusal is that of a check that writes a witness: nothing was written. After a write fault a beginning of the text was, and some of it was not.
abbrev pub HasNoReasons : Priorities → Option BoardKind → (limit : ℕ) → (first second : List ℕ) → (old new : Taken) → MuError → Type 0
HasNoReasons rule board limit first second old new (error.Write fault) =
    (answer : Bool) × HasGivenReasons rule board limit first second answer (WroteFront old new)
HasNoReasons rule board limit first second old new e = RefusesCheck (ByGame rule board) first second (lent_for WitnessText old new ∷ []) e

abbrev pub TellsReasons : Priorities → Option BoardKind → (limit : ℕ) → (first second : List ℕ) → (old new : Taken) → Result Bool MuError → Type 0
TellsReasons rule board limit first second old new result =
    MatchResult result (λ answer. HasGivenReasons rule board limit first second answer (Adds old new))
    (HasNoReasons rule board limit first second old new)

-- The visits tell the play by this evidence, with what their text is made of.
pub record IsToldBy (l : System) (ns : List Node) (g : Game) (e : Evidence) (limit : ℕ) (told : PlayVisits) : Type 0 where
  pub telling : IsTelling l ns g e (root_of l ns) (most_visits limit) told.visits.items
  pub most : told.most ≡ most_visits limit
  pub back : AreHeads told.visits.items told.heads.items
  pub cut : IsCut ns told.visits.items told.heads.items limit told.count
  pub texts : map (λ text. text.items) told.modalities.items ≡ map modality_of ns

-- The answer isn't told in one line.
abbrev pub IsApart : Priorities → PlayFound → Type 0
IsApart rule x =
    HaveAnswer (system_played x) (nodes_with rule (formula_played x)) (formula_played x)
    (slice_index_or x.marks.items (system_played x).initial false) → ⊥
