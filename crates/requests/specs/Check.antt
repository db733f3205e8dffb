-- What a check answers.
use Rattle.std.specs.Prelude.{◌≡◌, ℕ, ◌+◌, ◌*◌, ◌≤◌, Bool, false, List, [], length, Option, Some, Result, MatchResult}
use Rattle.std.specs.List.{slice_index_or}
use Rattle.systems.specs.System.{System}
use Rattle.lts.specs.Aut.{IsAut, HasAutFault}
use Rattle.lts.specs.Canon.{aut_text}
use Rattle.lts.specs.Left.{RefusesAut}
use Rattle.calculus.specs.Tree.{Formula}
use Rattle.calculus.specs.Meaning.{MarksOf, Satisfies}
use Rattle.formula.specs.Checked.{IsTold}
use Rattle.calculus.specs.declared.limits.TheConstants.{MOST_NODES, GREATEST_PRIORITY}
use Rattle.calculus.specs.declared.priorities.Priorities.{Priorities}
use Rattle.calculus.specs.NormalTree.{node_count}
use Rattle.calculus.specs.Nodes.{greatest_node_priority}
use Rattle.calculus.specs.Rules.{nodes_with}
use Rattle.normal.specs.Refused as normal
use Rattle.game.specs.declared.limits.TheConstants.{MOST_VERTICES}
use Rattle.game.specs.Refused as game
use Rattle.game.specs.Game.{Game, greatest}
use Rattle.game.specs.Arena.{arena}
use Rattle.pgsolver.specs.Canon.{game_text}
use Rattle.evidence.specs.declared.error.EvidenceError.{EvidenceError}
use Rattle.evidence.specs.declared.error.EvidenceError.TheVariants as evidence
use Rattle.evidence.specs.Evidence.{Evidence}
use Rattle.evidence.specs.Best.{IsEvenOf, IsOddOf}
use Rattle.evidence.specs.Canon.{evidence_text}
use Rattle.witness.specs.Witness.{IsShown}
use Rattle.witness.specs.Drawing.{drawing}
use Rattle.requests.specs.declared.error.MuError.{MuError}
use Rattle.requests.specs.declared.error.MuError.TheVariants as error
use Rattle.requests.specs.Texts.{IsSystemOf, IsFormulaOf}
use Rattle.workers.specs.declared.team.BoardKind.{BoardKind}
use Rattle.requests.specs.Report.{report_in}
use Rattle.requests.specs.Roots.{WinsRoot}
use Rattle.requests.specs.Solver.{FitsBoard, IsUnsolved}
use Rattle.requests.specs.Writers.{TextKind, GameText, EvenText, OddText, WitnessText, DrawingText, ReportText, Unasked, Lent, NeedsEvidence, AreWhole, AreKept}
use Rattle.requests.specs.Writers.{AreWrittenUpTo}

-- how the states are found: by sets of states, or by the game with the priorities of a rule, solved over the board that is asked for, if one is
pub data Way : Type 0 where
  BySets : Way
  ByGame : Priorities → Option BoardKind → Way

-- The texts spell one system and one admitted formula each, within the limits.
pub record AreSpelled (first second : List ℕ) (l : System) (f : Formula) : Type 0 where
  pub system : IsSystemOf first l
  pub formula : IsFormulaOf second f

-- the formula has a normal form within the limits, by this rule
pub record HasForm (rule : Priorities) (f : Formula) : Type 0 where
  pub nodes : node_count f ≤ MOST_NODES
  pub priorities : greatest_node_priority (nodes_with rule f) ≤ GREATEST_PRIORITY

-- and the system with it a game
pub record HasGame (rule : Priorities) (l : System) (f : Formula) : Type 0 where
  pub form : HasForm rule f
  pub vertices : 2 + l.states * length (nodes_with rule f) ≤ MOST_VERTICES

-- the game of the system and the formula's normal form by this rule
abbrev pub game_by_rule : Priorities → System → Formula → Game
game_by_rule rule l f = arena l (nodes_with rule f)

-- The game is that of the system and the formula.
pub record IsArenaOf (rule : Priorities) (l : System) (f : Formula) (g : Game) : Type 0 where
  pub within : HasGame rule l f
  pub same : g ≡ game_by_rule rule l f
  pub low : greatest g ≤ GREATEST_PRIORITY

-- what is asked for can be found this way: sets of states have no limits
abbrev pub CanBeFound : Way → System → Formula → Type 0
CanBeFound BySets l f = Unit {0}
CanBeFound (ByGame rule board) l f = HasGame rule l f × FitsBoard board (game_by_rule rule l f)

-- Why it can't: the first limit that is passed, in the order of nodes, priorities, vertices, ranks. Memory may be wanting within the limits or not.
abbrev pub IsBeyond : Way → System → Formula → MuError → Type 0
IsBeyond BySets l f error.Memory = Unit {0}
IsBeyond BySets l f e = ⊥
IsBeyond (ByGame rule board) l f error.Memory = Unit {0}
IsBeyond (ByGame rule board) l f (error.Normal e) = normal.HasRefusalWith rule f e
IsBeyond (ByGame rule board) l f (error.Build e) = HasForm rule f × game.HasBuildRefusal l.states (length (nodes_with rule f)) e
IsBeyond (ByGame rule board) l f (error.Table e) = HasGame rule l f × IsUnsolved board (game_by_rule rule l f) (error.Table e)
IsBeyond (ByGame rule board) l f (error.Solve e) = HasGame rule l f × IsUnsolved board (game_by_rule rule l f) (error.Solve e)
IsBeyond (ByGame rule board) l f e = ⊥

-- Where a game is made, Even wins the vertex of a state with the root exactly where the state's mark is true.
abbrev pub AreWon : Way → System → Formula → List Bool → Type 0
AreWon BySets l f marks = Unit {0}
AreWon (ByGame rule board) l f marks = MarksOf l.states marks (WinsRoot (game_by_rule rule l f))

-- the marks of the states in the formula's meaning, found this way
pub record AreMarks (way : Way) (l : System) (f : Formula) (marks : List Bool) : Type 0 where
  pub within : CanBeFound way l f
  pub exact : MarksOf l.states marks (Satisfies l f)
  pub won : AreWon way l f marks

-- The texts that are written where these are the marks. Without a game there is the report alone. Where nothing is asked for, nothing is written.
abbrev pub IsTextOf : Way → System → Formula → List Bool → TextKind → List ℕ → Type 0
IsTextOf BySets l f marks GameText text = ⊥
IsTextOf BySets l f marks EvenText text = ⊥
IsTextOf BySets l f marks OddText text = ⊥
IsTextOf BySets l f marks WitnessText text = ⊥
IsTextOf BySets l f marks DrawingText text = ⊥
IsTextOf BySets l f marks (ReportText form) text = text ≡ report_in form l f marks
IsTextOf BySets l f marks Unasked text = text ≡ []
IsTextOf (ByGame rule board) l f marks GameText text = text ≡ game_text (game_by_rule rule l f)
IsTextOf (ByGame rule board) l f marks EvenText text = (e : Evidence) × IsEvenOf (game_by_rule rule l f) e × (text ≡ evidence_text e)
IsTextOf (ByGame rule board) l f marks OddText text = (e : Evidence) × IsOddOf (game_by_rule rule l f) e × (text ≡ evidence_text e)
IsTextOf (ByGame rule board) l f marks WitnessText text = (part : System) × IsShown l f (nodes_with rule f) part × (text ≡ aut_text part)
IsTextOf (ByGame rule board) l f marks DrawingText text = (part : System) × IsShown l f (nodes_with rule f) part × (text ≡ drawing part)
IsTextOf (ByGame rule board) l f marks (ReportText form) text = text ≡ report_in form l f marks
IsTextOf (ByGame rule board) l f marks Unasked text = text ≡ []

-- Each text was written whole, the report among them on the states in the formula's meaning, and the answer is the initial state's.
pub record HasReported (way : Way) (first second : List ℕ) (writers : List Lent) (answer : Bool) : Type 0 where
  pub l : System
  pub f : Formula
  pub marks : List Bool
  pub spelled : AreSpelled first second l f
  pub found : AreMarks way l f marks
  pub written : AreWhole (IsTextOf way l f marks) writers
  pub answered : answer ≡ slice_index_or marks l.initial false

-- The texts before one were written whole, of that one a beginning, and of those after it nothing.
pub record HasBegunCheck (way : Way) (first second : List ℕ) (writers : List Lent) : Type 0 where
  pub l : System
  pub f : Formula
  pub marks : List Bool
  pub spelled : AreSpelled first second l f
  pub found : AreMarks way l f marks
  pub begun : AreWrittenUpTo (IsTextOf way l f marks) writers

-- Both texts are spelled, and a limit is passed, or memory is wanting within the limits.
pub record HasNoGame (way : Way) (first second : List ℕ) (e : MuError) : Type 0 where
  pub l : System
  pub f : Formula
  pub spelled : AreSpelled first second l f
  pub beyond : IsBeyond way l f e

-- Both texts are spelled, and memory is wanting for evidence that is needed for what is asked for.
pub record HasNoEvidence (way : Way) (first second : List ℕ) (writers : List Lent) (e : EvidenceError) : Type 0 where
  pub l : System
  pub f : Formula
  pub spelled : AreSpelled first second l f
  pub within : CanBeFound way l f
  pub needed : NeedsEvidence writers
  pub memory : e ≡ evidence.Memory

abbrev pub SpellsSystem : List ℕ → Type 0
SpellsSystem first = (l : System) × IsAut first l

-- What a refusal says of the texts, and what it leaves: nothing was written, but after a write fault the texts up to one. The formula's text is looked
-- at where the first one spells a system.
abbrev pub RefusesCheck : (way : Way) → (first second : List ℕ) → List Lent → MuError → Type 0
RefusesCheck way first second writers (error.Arguments e) = ⊥
RefusesCheck way first second writers error.File = ⊥
RefusesCheck way first second writers error.Read = SpellsSystem first × AreKept writers
RefusesCheck way first second writers error.Memory = SpellsSystem first × AreKept writers
RefusesCheck way first second writers (error.System e) = RefusesAut (Some first) HasAutFault e × AreKept writers
RefusesCheck way first second writers (error.Formula e) = SpellsSystem first × IsTold second e × AreKept writers
RefusesCheck way first second writers (error.Normal e) = HasNoGame way first second (error.Normal e) × AreKept writers
RefusesCheck way first second writers (error.Build e) = HasNoGame way first second (error.Build e) × AreKept writers
RefusesCheck way first second writers (error.Game e) = ⊥
RefusesCheck way first second writers (error.Evidence e) = HasNoEvidence way first second writers e × AreKept writers
RefusesCheck way first second writers (error.Table e) = HasNoGame way first second (error.Table e) × AreKept writers
RefusesCheck way first second writers (error.Solve e) = HasNoGame way first second (error.Solve e) × AreKept writers
RefusesCheck way first second writers (error.Schedule e) = ⊥
RefusesCheck way first second writers (error.NoLabel offset) = ⊥
RefusesCheck way first second writers (error.Write e) = HasBegunCheck way first second writers

abbrev pub AnswersCheck : Way → (first second : List ℕ) → List Lent → Result Bool MuError → Type 0
AnswersCheck way first second writers result = MatchResult result (HasReported way first second writers) (RefusesCheck way first second writers)

-- The theorem of a check: of what the readers had left, where they tell it, and of what the writers held before and after. The writers are those that
-- were lent, in the order in which they are written to.
abbrev pub Checks : Way → (aut formula : Option (List ℕ)) → List Lent → Result Bool MuError → Type 0
Checks way aut formula writers result = (first second : List ℕ) → aut ≡ Some first → formula ≡ Some second → AnswersCheck way first second writers result

-- the refusals of this way, whatever the readers tell: by sets of states neither a game nor a board is made, so none is refused
abbrev pub IsErrorOf : Way → MuError → Type 0
IsErrorOf BySets (error.Normal e) = ⊥
IsErrorOf BySets (error.Build e) = ⊥
IsErrorOf BySets (error.Game e) = ⊥
IsErrorOf BySets (error.Evidence e) = ⊥
IsErrorOf BySets (error.Table e) = ⊥
IsErrorOf BySets (error.Solve e) = ⊥
IsErrorOf BySets (error.Schedule e) = ⊥
IsErrorOf BySets (error.NoLabel offset) = ⊥
IsErrorOf BySets (error.Arguments e) = ⊥
IsErrorOf BySets error.File = ⊥
IsErrorOf BySets e = Unit {0}
IsErrorOf (ByGame rule board) e = Unit {0}
