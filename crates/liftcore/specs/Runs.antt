-- What a run of events leaves.
use Rattle.std.specs.Prelude.{◌≡◌, ℕ, Bool, true, false, List, count_by, not}
use Rattle.liftcore.specs.Core.{Core, starting_core}
use Rattle.liftcore.specs.Step.{Steps}
use Rattle.liftcore.specs.declared.event.Event.{Event}
use Rattle.liftcore.specs.declared.event.Outcome.{Outcome}
use Rattle.liftcore.specs.declared.event.Outcome.TheVariants.{Done, Skipped}

abbrev pub is_done : Outcome → Bool
is_done Done = true
is_done Skipped = false

-- The events come from one state to the other, and so many of them were done and so many skipped.
pub record Comes (old : Core) (events : List Event) (done skipped : ℕ) (new : Core) : Type 0 where
  pub dones : List Bool
  pub steps : Steps old events dones new
  pub done_is : done ≡ count_by (λ d. d) dones
  pub skipped_is : skipped ≡ count_by (λ d. not d) dones

-- some events come to the state from the start
pub record IsReached (c : Core) : Type 0 where
  pub workers : ℕ
  pub events : List Event
  pub dones : List Bool
  pub steps : Steps (starting_core c.table.game workers) events dones c
