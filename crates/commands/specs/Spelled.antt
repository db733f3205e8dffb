-- What the texts of games, of evidence and of schedules spell.
use Rattle.std.specs.Prelude.{◌≡◌, ℕ, List, IfSome}
use Rattle.game.specs.Game.{Game}
use Rattle.pgsolver.specs.Spelling.{IsGameText}
use Rattle.pgsolver.specs.Fault as game
use Rattle.pgsolver.specs.Left as game_left
use Rattle.pgsolver.specs.declared.error.PgError.{PgError}
use Rattle.evidence.specs.Evidence.{Evidence}
use Rattle.evidence.specs.Spelling.{IsEvidenceText}
use Rattle.evidence.specs.Fault as evidence
use Rattle.evidence.specs.declared.error.EvidenceError.{EvidenceError}
use Rattle.liftcore.specs.Schedule.{IsSchedule}
use Rattle.liftcore.specs.Schedule as schedule
use Rattle.liftcore.specs.declared.event.Event.{Event}
use Rattle.liftcore.specs.declared.error.ScheduleError.{ScheduleError}

-- the text spells this game alone
pub record IsGameOf (text : List ℕ) (g : Game) : Type 0 where
  pub spelled : IsGameText text g
  pub only : (other : Game) → IsGameText text other → other ≡ g

-- the text spells this evidence for the game alone
pub record IsEvidenceOf (g : Game) (text : List ℕ) (e : Evidence) : Type 0 where
  pub spelled : IsEvidenceText g text e
  pub only : (other : Evidence) → IsEvidenceText g text other → other ≡ e

-- the fault that is told, if one is, decides the text of a game
abbrev pub IsGameTold : List ℕ → PgError → Type 0
IsGameTold text error = IfSome (game_left.pg_fault_of error) (game.HasPgFaultAt text)

-- the same of a text of evidence for a game
abbrev pub IsEvidenceTold : Game → List ℕ → EvidenceError → Type 0
IsEvidenceTold g text error = IfSome (evidence.evidence_fault_of error) (evidence.HasEvidenceFaultAt g text)

-- the text spells this schedule alone, for so many workers and vertices
pub record IsScheduleOf (workers vertices : ℕ) (text : List ℕ) (events : List Event) : Type 0 where
  pub spelled : IsSchedule workers vertices text events
  pub only : (other : List Event) → IsSchedule workers vertices text other → other ≡ events

-- the same of a text of a schedule
abbrev pub IsScheduleTold : (workers vertices : ℕ) → List ℕ → ScheduleError → Type 0
IsScheduleTold workers vertices text error = IfSome (schedule.schedule_fault_of error) (schedule.HasScheduleFaultAt workers vertices text)
