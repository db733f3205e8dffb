-- What a check by a game makes of what it has found out: the texts that are written of it, and what is made before they are.
use Rattle.std.specs.Prelude.{◌≡◌, ℕ, ◌⊎◌, Bool, false, true, List, Option, Some, IfSome, IsTrue, option_map}
use Rattle.std.specs.Arc.{arc_value}
use Rattle.std.specs.Option.{is_some}
use Rattle.systems.specs.Numbered.{IsInside, system_with}
use Rattle.systems.specs.declared.system.Transition.{Transition}
use Rattle.calculus.specs.Closed.{closed_formula}
use Rattle.calculus.specs.Normal.{normal_nodes}
use Rattle.calculus.specs.Rules.{nodes_with}
use Rattle.calculus.specs.declared.priorities.Priorities.{Priorities}
use Rattle.game.specs.Game.{Game}
use Rattle.evidence.specs.View.{NamedEvidence}
use Rattle.evidence.specs.declared.error.EvidenceError.TheVariants as evidence
use Rattle.witness.specs.Witness.{IsShown}
use Rattle.requests.specs.declared.error.MuError.{MuError}
use Rattle.requests.specs.declared.error.MuError.TheVariants as error
use Rattle.requests.specs.declared.request.Wanted.{Wanted}
use Rattle.engines.specs.declared.play.PlayFound.{PlayFound}
use Rattle.engines.specs.declared.prepared.BothEvidence.{BothEvidence}
use Rattle.engines.specs.declared.prepared.BothEvidence.TheVariants.{Least, Made, Neither}
use Rattle.engines.specs.declared.prepared.Prepared.{Prepared}
use Rattle.engines.specs.declared.prepared.WitnessText.{WitnessText}
use Rattle.verdicts.specs.declared.findings.Findings.{Findings}
use Rattle.requests.specs.declared.texts.Texts.{Texts}
use Rattle.requests.specs.Check.{ByGame, IsTextOf, game_by_rule}
use Rattle.workers.specs.declared.team.BoardKind.{BoardKind}
use Rattle.requests.specs.Writers.{TextKind}
use Rattle.engines.specs.Play.{IsPlay, IsUnshown}
use Rattle.verdicts.specs.Findings.{IsLeastFound, IsPairOf, system_of}

-- both texts, the rule and the board by which the states were marked, and their marks
pub record Outcome : Type 0 where
  pub rule : Priorities
  pub board : Option BoardKind
  pub texts : Texts
  pub marks : List Bool

-- the game by that rule
abbrev pub game_played : Outcome → Game
game_played x = game_by_rule x.rule x.texts.system.system (closed_formula x.texts.formula)

-- the texts that are written of it
abbrev pub IsTextFound : Outcome → TextKind → List ℕ → Type 0
IsTextFound x = IsTextOf (ByGame x.rule x.board) x.texts.system.system (closed_formula x.texts.formula) x.marks

abbrev pub outcome_of : Findings → Outcome
outcome_of x = record { rule = x.solution.priorities; board = x.solution.board; texts = x.texts.value; marks = x.marks.items }

abbrev pub outcome_played : Priorities → BoardKind → PlayFound → Outcome
outcome_played rule board x = record { rule = rule; board = Some board; texts = x.texts.value; marks = x.marks.items }

-- the play by evidence in the game that was solved
abbrev pub IsWinning : Findings → NamedEvidence → Type 0
IsWinning x = IsPlay (system_of x) (normal_nodes x.solution.form) (arc_value x.solution.game)

-- the transitions of a witness
pub record AreShown (rule : Priorities) (t : Texts) (part : List Transition) : Type 0 where
  pub inside : IsInside t.system part
  pub shown : IsShown t.system.system (closed_formula t.formula) (nodes_with rule (closed_formula t.formula)) (system_with t.system part)

-- whether there is evidence
abbrev pub is_made : BothEvidence → Bool
is_made Neither = false
is_made (Made pair) = true
is_made (Least least) = true

-- It is that of the game, or is written from the least measures there.
abbrev pub AreBoth : Outcome → BothEvidence → Type 0
AreBoth x Neither = Unit {0}
AreBoth x (Made pair) = IsPairOf (game_played x) pair
AreBoth x (Least least) = (board : BoardKind) × IsLeastFound x.rule board x.texts.system.system (closed_formula x.texts.formula) least.now

-- Each text that is wanted is made, or what it is written from, and none besides.
pub record ArePrepared (x : Outcome) (p : Prepared) : Type 0 where
  pub stored : is_some p.game ≡ p.wanted.game
  pub game : IfSome p.game (λ g. g.now ≡ game_played x)
  pub made : is_made p.evidence ≡ p.wanted.evidence
  pub both : AreBoth x p.evidence
  pub form : option_map (λ (shown : WitnessText). shown.form) p.shown ≡ p.wanted.witness
  pub shown : IfSome p.shown (λ shown. AreShown x.rule x.texts shown.part.items)

-- There was no memory for what is wanted.
abbrev pub IsUnprepared : Wanted → MuError → Type 0
IsUnprepared wanted e = (IsTrue wanted.evidence × (e ≡ error.Evidence evidence.Memory)) ⊎ (IsTrue (is_some wanted.witness) × IsUnshown e)
