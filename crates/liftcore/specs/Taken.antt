-- How far the text of a schedule was read.
use Rattle.std.specs.Prelude.{◌≡◌, ℕ, Bool, false, List, [], ◌++◌, ◌==◌, Option, IfSome}
use Rattle.std.specs.List.{AllZip, list_any}
use Rattle.text.specs.Text.{pieces_of}
use Rattle.liftcore.specs.Begun.{IsBegunLine}
use Rattle.liftcore.specs.Schedule.{HasScheduleFaultAt, IsGoodScheduleLine, schedule_fault_of, reader_fault_of}
use Rattle.liftcore.specs.declared.event.Event.{Event}
use Rattle.liftcore.specs.declared.error.ScheduleError.{ScheduleError}
use Rattle.liftcore.specs.declared.error.ReadError.{ReadError}
use Rattle.liftcore.specs.declared.schedule.Intake.{Intake}

-- the first lines of a text, which spell these events, where this is left
pub record EventsSoFar (workers vertices : ℕ) (text left : List ℕ) (events : List Event) : Type 0 where
  pub done : List (List ℕ)
  pub each : AllZip (IsGoodScheduleLine workers vertices) done events
  pub cut : pieces_of text ≡ done ++ pieces_of left

-- Of the text this is left, behind whole lines and a line that has begun.
pub record HasTakenLines (workers vertices : ℕ) (text left : List ℕ) (intake : Intake) : Type 0 where
  pub begun : List ℕ
  pub inside : list_any (λ b. b == 10) begun ≡ false
  pub line : IsBegunLine begun intake.line.word.items intake.line.part
  pub so_far : EventsSoFar workers vertices text (begun ++ left) intake.events.items
  pub few : intake.workers ≡ workers
  pub small : intake.vertices ≡ vertices

-- these bytes are taken
abbrev pub TakesBytes : List ℕ → Intake → Intake → Type 0
TakesBytes bytes old new = (workers vertices : ℕ) (text left : List ℕ) → HasTakenLines workers vertices text (bytes ++ left) old → HasTakenLines workers vertices text left new

-- the fault that is told, if one is, decides a text in which these bytes are next
abbrev pub Tells : List ℕ → Intake → ScheduleError → Type 0
Tells bytes old error =
    (workers vertices : ℕ) (text left : List ℕ) → HasTakenLines workers vertices text (bytes ++ left) old → IfSome (schedule_fault_of error) (HasScheduleFaultAt workers vertices text)

-- All bytes at hand are taken: some, or none where no more follow, unless there may be more.
abbrev pub TakesBlock : Intake → Intake → Bool → List ℕ → List ℕ → Type 0
TakesBlock old new more left rest =
    (block : List ℕ) × (left ≡ block ++ rest) × TakesBytes block old new × (more ≡ false → rest ≡ [])

-- the fault that is told, if one is, decides a text of which a reader has the rest
abbrev pub TellsRead : Option (List ℕ) → Intake → ReadError → Type 0
TellsRead known old error = IfSome known (λ left. (workers vertices : ℕ) (text : List ℕ) → HasTakenLines workers vertices text left old
    → IfSome (reader_fault_of error) (HasScheduleFaultAt workers vertices text))
