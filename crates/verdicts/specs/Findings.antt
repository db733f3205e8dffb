-- What a check by a game finds out.
use Rattle.std.specs.Prelude.{◌≡◌, ℕ, ◌↔◌, IsTrue, List, Some, length}
use Rattle.std.specs.Arc.{arc_value}
use Rattle.systems.specs.System.{System}
use Rattle.calculus.specs.Tree.{Formula}
use Rattle.calculus.specs.Closed.{closed_formula}
use Rattle.calculus.specs.Meaning.{MarksOf}
use Rattle.calculus.specs.Normal.{normal_nodes}
use Rattle.calculus.specs.Rules.{nodes_with}
use Rattle.calculus.specs.Nodes.{Node}
use Rattle.game.specs.declared.player.Player.TheVariants.{Even, Odd}
use Rattle.game.specs.Game.{Game, dual}
use Rattle.game.specs.Arena.{arena}
use Rattle.game.specs.Wins.{OddWins, Wins}
use Rattle.measures.specs.Progress.{IsLeastTable}
use Rattle.measures.specs.StoredProposal.{values_of}
use Rattle.measures.specs.declared.proposal.Proposals.{Proposals}
use Rattle.evidence.specs.Best.{IsEvenOf, IsOddOf}
use Rattle.evidence.specs.Evidence.{IsGood, has}
use Rattle.verdicts.specs.declared.lifting.SolvedGame.{SolvedGame}
use Rattle.verdicts.specs.declared.lifting.Winners.{Winners}
use Rattle.verdicts.specs.declared.lifting.Winners.TheVariants.{Table, Marks as ByMarks}
use Rattle.verdicts.specs.declared.findings.Findings.{Findings}
use Rattle.verdicts.specs.declared.findings.GameToSolve.{GameToSolve}
use Rattle.evidence.specs.declared.pair.EvidencePair.{EvidencePair}
use Rattle.verdicts.specs.declared.marks.MarkedGame.{MarkedGame}
use Rattle.verdicts.specs.declared.proposing.LeastFound.{LeastFound}
use Rattle.verdicts.specs.declared.ranked.RankedFound.{RankedFound}
use Rattle.calculus.specs.declared.priorities.Priorities.{Priorities}
use Rattle.rankings.specs.Least.{AreWinnersMoves}
use Rattle.workers.specs.declared.team.BoardKind.{BoardKind}
use Rattle.requests.specs.Check.{Way, ByGame, AreMarks, HasGame, IsArenaOf}
use Rattle.requests.specs.Solver.{FitsBoard}

-- The game is that of the system and the formula's normal form, and is solved, over the board that was asked for, if one was
pub record IsSolvedGame (l : System) (f : Formula) (s : SolvedGame) : Type 0 where
  pub form : normal_nodes s.form ≡ nodes_with s.priorities f
  pub game : IsArenaOf s.priorities l f (arc_value s.game)
  pub board : FitsBoard s.board (arc_value s.game)
  pub settled : s.settled.game ≡ arc_value s.game

-- They are the least progress tables of both players in the arena of the system and these nodes.
pub record AreLeastOf (l : System) (nodes : List Node) (c : Proposals) : Type 0 where
  pub even : IsLeastTable (arena l nodes) (values_of Even c)
  pub odd : IsLeastTable (dual (arena l nodes)) (values_of Odd c)

-- The form is the formula's, the arena is within the limits, its least measures and the moves by them are found, and no board is asked for that could be
-- refused.
pub record IsLeastFound (rule : Priorities) (board : BoardKind) (l : System) (f : Formula) (x : LeastFound) : Type 0 where
  pub within : HasGame rule l f
  pub fits : (g : Game) → FitsBoard (Some board) g
  pub form : normal_nodes x.form ≡ nodes_with rule f
  pub least : AreLeastOf l (nodes_with rule f) x.proposals
  pub moves : AreWinnersMoves x.proposals (arena l (nodes_with rule f)) x.moves.items

-- The form is the formula's, and the marks are the states'.
pub record IsRankedFound (rule : Priorities) (board : BoardKind) (l : System) (f : Formula) (x : RankedFound) : Type 0 where
  pub form : normal_nodes x.form ≡ nodes_with rule f
  pub marks : AreMarks (ByGame rule (Some board)) l f x.marks.items

-- The game is that of the system and the formula, and the marks are the states'.
pub record IsMarkedGame (rule : Priorities) (board : BoardKind) (l : System) (f : Formula) (x : MarkedGame) : Type 0 where
  pub game : IsArenaOf rule l f (arc_value x.game)
  pub marks : AreMarks (ByGame rule (Some board)) l f x.marks.items

-- They are the winners of the game.
abbrev pub AreWinnersOf : Game → Winners → Type 0
AreWinnersOf g (Table settled) = settled.now.game ≡ g
AreWinnersOf g (ByMarks marks) = MarksOf (length g.vertices) marks.now (Wins g)

-- The normal form and the game that is to be solved are those of the texts.
pub record ArePosed (x : GameToSolve) : Type 0 where
  pub form : normal_nodes x.form ≡ nodes_with x.priorities (closed_formula x.texts.value.formula)
  pub game : IsArenaOf x.priorities x.texts.value.system.system (closed_formula x.texts.value.formula) (arc_value x.game)

abbrev pub system_of : Findings → System
system_of x = x.texts.value.system.system

abbrev pub formula_found : Findings → Formula
formula_found x = closed_formula x.texts.value.formula

abbrev pub way_in : Findings → Way
way_in x = ByGame x.solution.priorities x.solution.board

-- The game is solved, and the marks are found.
pub record AreFindings (x : Findings) : Type 0 where
  pub solution : IsSolvedGame (system_of x) (formula_found x) x.solution
  pub marks : AreMarks (way_in x) (system_of x) (formula_found x) x.marks.items

-- evidence of all that each player wins
pub record IsPairOf (g : Game) (pair : EvidencePair) : Type 0 where
  pub even_game : pair.even.game ≡ g
  pub even_good : IsGood g pair.even.evidence
  pub even_exact : (v : ℕ) → IsTrue (has pair.even.evidence v) ↔ Wins g v
  pub odd_game : pair.odd.game ≡ g
  pub odd_good : IsGood g pair.odd.evidence
  pub odd_exact : (v : ℕ) → IsTrue (has pair.odd.evidence v) ↔ OddWins g v
  pub even : IsEvenOf g pair.even.evidence
  pub odd : IsOddOf g pair.odd.evidence
