-- What holds of all runs of the core, and of all texts of schedules.
use Rattle.std.specs.Prelude.{◌≡◌, ℕ, Bool, List, IsTrue, ◌*◌, ◌≤◌, ◌⊎◌, count_by, length}
use Rattle.game.specs.Game.{Game, IsGame}
use Rattle.measures.specs.Lifting.{height}
use Rattle.measures.specs.Measure.{IsAtMost}
use Rattle.measures.specs.Progress.{IsProgress}
use Rattle.measures.specs.Tables.{IsPlain, IsSettled}
use Rattle.liftcore.specs.Core.{Core, starting_core, is_quiet}
use Rattle.liftcore.specs.Schedule.{HasScheduleFault, IsSchedule}
use Rattle.liftcore.specs.Step.{RaisingSteps, Step, Steps, value_in}
use Rattle.liftcore.specs.declared.error.ScheduleFault.{ScheduleFault}
use Rattle.liftcore.specs.declared.event.Event.{Event}

-- An event comes to one state only, and isn't both done and skipped.
abbrev pub OneStep : Type 0
OneStep = (old new other : Core) (event : Event) (done did : Bool) → Step old event done new → Step old event did other → (done ≡ did) × (new ≡ other)

-- The table never falls.
abbrev pub NeverFalls : Type 0
NeverFalls = (old new : Core) (event : Event) (done : Bool) → Step old event done new → (v : ℕ) → IsAtMost (value_in old v) (value_in new v)

-- Every value stays below, whatever the events.
abbrev pub StaysBelow : Type 0
StaysBelow = (g : Game) (workers : ℕ) (events : List Event) (dones : List Bool) (c : Core) → IsGame g → Steps (starting_core g workers) events dones c → IsPlain c.table

-- Where the table is settled it is the least progress table.
abbrev pub SettledIsLeast : Type 0
SettledIsLeast =
    (g : Game) (workers : ℕ) (events : List Event) (dones : List Bool) (c : Core) → IsGame g → Steps (starting_core g workers) events dones c
    → IsProgress g c.table.values
    → IsSettled c.table

-- A quiet core is settled.
abbrev pub QuietIsSettled : Type 0
QuietIsSettled =
    (g : Game) (workers : ℕ) (events : List Event) (dones : List Bool) (c : Core) → IsGame g → Steps (starting_core g workers) events dones c → IsTrue (is_quiet c)
    → IsProgress g c.table.values

-- At most as many events raise the table as top's rank times the vertices.
abbrev pub FewRaise : Type 0
FewRaise =
    (g : Game) (workers : ℕ) (events : List Event) (dones rises : List Bool) (c : Core) → IsGame g → RaisingSteps (starting_core g workers) events dones rises c
    → count_by (λ rose. rose) rises ≤ length g.vertices * height g

-- A text spells at most one schedule for so many workers and vertices.
abbrev pub OneSchedule : Type 0
OneSchedule = (workers vertices : ℕ) (text : List ℕ) (es fs : List Event) → IsSchedule workers vertices text es → IsSchedule workers vertices text fs → es ≡ fs

-- A text that spells a schedule has no deciding fault, and each text has one at most, at one line.
abbrev pub NoScheduleFault : Type 0
NoScheduleFault = (workers vertices : ℕ) (text : List ℕ) (events : List Event) (fault : ScheduleFault) (line : ℕ) → IsSchedule workers vertices text events
    → HasScheduleFault workers vertices text fault line → ⊥

abbrev pub OneScheduleFault : Type 0
OneScheduleFault = (workers vertices : ℕ) (text : List ℕ) (a b : ScheduleFault) (i j : ℕ) → HasScheduleFault workers vertices text a i → HasScheduleFault workers vertices text b j
    → (a ≡ b) × (i ≡ j)

-- A text spells a schedule, or a fault decides.
abbrev pub ScheduleIsDecided : Type 0
ScheduleIsDecided = (workers vertices : ℕ) (text : List ℕ) → ((events : List Event) × IsSchedule workers vertices text events)
    ⊎ ((fault : ScheduleFault) × (line : ℕ) × HasScheduleFault workers vertices text fault line)
