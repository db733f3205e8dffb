-- The play from the initial state on, by evidence of the winner.
use Rattle.std.specs.Prelude.{◌≡◌, ◌⊎◌, List, Some}
use Rattle.std.specs.Arc.{arc_value}
use Rattle.systems.specs.System.{System}
use Rattle.calculus.specs.Closed.{closed_formula}
use Rattle.calculus.specs.Normal.{normal_nodes}
use Rattle.calculus.specs.Nodes.{Node}
use Rattle.calculus.specs.Rules.{nodes_with}
use Rattle.calculus.specs.Tree.{Formula}
use Rattle.calculus.specs.declared.priorities.Priorities.{Priorities}
use Rattle.game.specs.Arena.{arena}
use Rattle.game.specs.Game.{Game}
use Rattle.evidence.specs.View.{NamedEvidence}
use Rattle.evidence.specs.declared.error.EvidenceError.TheVariants as evidence
use Rattle.witness.specs.Witness.{IsWinners}
use Rattle.workers.specs.declared.team.BoardKind.{BoardKind}
use Rattle.requests.specs.declared.error.MuError.{MuError}
use Rattle.requests.specs.declared.error.MuError.TheVariants as error
use Rattle.requests.specs.Check.{AreMarks, ByGame, CanBeFound, IsBeyond}
use Rattle.engines.specs.declared.play.PlayFound.{PlayFound}

-- The game is that of the system and the nodes, and the evidence is of the game, and the winner's.
pub record IsPlay (l : System) (nodes : List Node) (g : Game) (e : NamedEvidence) : Type 0 where
  pub game : g ≡ arena l nodes
  pub same : e.game ≡ g
  pub winners : IsWinners l nodes e.evidence

abbrev pub system_played : PlayFound → System
system_played x = x.texts.value.system.system

abbrev pub formula_played : PlayFound → Formula
formula_played x = closed_formula x.texts.value.formula

-- The form is the formula's by this rule, the marks are the states', and the play is by the evidence.
pub record IsPlayFound (rule : Priorities) (board : BoardKind) (x : PlayFound) : Type 0 where
  pub form : normal_nodes x.form ≡ nodes_with rule (formula_played x)
  pub marks : AreMarks (ByGame rule (Some board)) (system_played x) (formula_played x) x.marks.items
  pub play : IsPlay (system_played x) (normal_nodes x.form) (arc_value x.game) x.evidence

-- There was no memory for a witness, or for the evidence by which it is found.
abbrev pub IsUnshown : MuError → Type 0
IsUnshown e = (e ≡ error.Memory) ⊎ (e ≡ error.Evidence evidence.Memory)

-- A limit is passed, or there was no memory for the evidence.
abbrev pub HasNoPlay : Priorities → BoardKind → System → Formula → MuError → Type 0
HasNoPlay rule board l f e = IsBeyond (ByGame rule (Some board)) l f e ⊎ (CanBeFound (ByGame rule (Some board)) l f × IsUnshown e)
