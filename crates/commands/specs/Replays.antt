-- What the command `replay` answers.
use Rattle.std.specs.Prelude.{◌≡◌, ◌↔◌, ℕ, Bool, true, List, [], length, IsTrue, None, Option, Some, Result}
use Rattle.text.specs.Taken.{Taken}
use Rattle.systems.specs.System.{System}
use Rattle.calculus.specs.Tree.{Formula}
use Rattle.calculus.specs.declared.priorities.Priorities.TheVariants.{Nested}
use Rattle.game.specs.Game.{Game}
use Rattle.measures.specs.Tables.{IsSettled}
use Rattle.liftcore.specs.Core.{Core, starting_core}
use Rattle.liftcore.specs.Replay.{replay_text}
use Rattle.liftcore.specs.Runs.{Comes}
use Rattle.liftcore.specs.declared.event.Event.{Event}
use Rattle.liftcore.specs.declared.error.ScheduleError.{ScheduleError}
use Rattle.requests.specs.Check.{AreSpelled, ByGame, IsArenaOf, RefusesCheck, Way}
use Rattle.requests.specs.Texts.{IsReadFault}
use Rattle.requests.specs.declared.error.MuError.{MuError}
use Rattle.requests.specs.declared.error.MuError.TheVariants as error
use Rattle.commands.specs.Answers.{Answers}
use Rattle.commands.specs.Spelled.{IsScheduleOf, IsScheduleTold}

-- a game by the nested rule, without a board
abbrev pub way : Way
way = ByGame Nested None

-- The first texts spell one system and one formula, and this is their game, by the nested rule.
pub record HasNestedGame (first second : List ℕ) (g : Game) : Type 0 where
  pub l : System
  pub f : Formula
  pub spelled : AreSpelled first second l f
  pub game : IsArenaOf Nested l f g

-- The third text spells one schedule for that game, whose events come from the start of so many workers to this state, and so many of them were done and so
-- many skipped: the text is that of this, and the answer is true. Of the state's table it is known whether it is settled.
pub record IsReplayed (workers : ℕ) (first second third : List ℕ) (answer : Bool) (text : List ℕ) : Type 0 where
  pub g : Game
  pub events : List Event
  pub done : ℕ
  pub skipped : ℕ
  pub core : Core
  pub settled : Bool
  pub game : HasNestedGame first second g
  pub schedule : IsScheduleOf workers (length g.vertices) third events
  pub comes : Comes (starting_core g workers) events done skipped core
  pub exact : IsTrue settled ↔ IsSettled core.table
  pub same : text ≡ replay_text done skipped core settled
  pub answered : answer ≡ true

-- why a text gives no schedule for so many workers and vertices: a read failed, memory was wanting, or it spells none
abbrev pub GivesNoSchedule : (workers vertices : ℕ) → List ℕ → MuError → Type 0
GivesNoSchedule workers vertices text (error.Schedule e) = IsScheduleTold workers vertices text e
GivesNoSchedule workers vertices text e = IsReadFault e

-- There is that game, and the third text spells no schedule for it, for this reason.
pub record HasNoSchedule (workers : ℕ) (first second third : List ℕ) (e : ScheduleError) : Type 0 where
  pub g : Game
  pub game : HasNestedGame first second g
  pub told : IsScheduleTold workers (length g.vertices) third e

-- What a refusal says of the texts: of the system, the formula and their game what a check's refusal does that lends no writer. The third text is looked at
-- where there is a game.
abbrev pub RefusesReplay : (workers : ℕ) → (first second third : List ℕ) → MuError → Type 0
RefusesReplay workers first second third (error.Schedule e) = HasNoSchedule workers first second third e
RefusesReplay workers first second third e = RefusesCheck way first second [] e

-- The theorem of the command: of what the readers had left, where they tell it, and of what the writer held before and after.
abbrev pub Replays : (workers : ℕ) → (aut formula schedule : Option (List ℕ)) → (old new : Taken) → Result Bool MuError → Type 0
Replays workers aut formula schedule old new result = (first second third : List ℕ) → aut ≡ Some first → formula ≡ Some second → schedule ≡ Some third
    → Answers (IsReplayed workers first second third) (RefusesReplay workers first second third) old new result
