-- What an event does, and what a list of events comes to.
use Rattle.std.specs.Prelude.{◌≡◌, ◌≢◌, ◌↔◌, IsTrue, ℕ, Bool, MatchBool, List, [], ◌∷◌, Contains, Some, None, slice_get, slice_set, if◌then◌else◌}
use Rattle.std.specs.List.{AllZip}
use Rattle.std.specs.Ordering.{is_lt}
use Rattle.game.specs.Game.{Vertex, vertex}
use Rattle.game.specs.Predecessors.{predecessors}
use Rattle.measures.specs.Measure.{Measure, measure_cmp}
use Rattle.measures.specs.Progress.{IsLift, value_at}
use Rattle.game.specs.NumberSet.{with_number}
use Rattle.liftcore.specs.Core.{Core, Note, Worker, Idle, Holding, Owing, noted, owing, with_note, without}
use Rattle.liftcore.specs.declared.event.Event.{Event}
use Rattle.liftcore.specs.declared.event.Event.TheVariants.{Take, Read, Raise, Push}

abbrev pub value_in : Core → ℕ → Measure
value_in c v = value_at c.table.values v

abbrev pub with_worker : Core → ℕ → Worker → Core
with_worker c w x = record c { workers = slice_set c.workers w x }

abbrev pub with_value : Core → ℕ → Measure → Core
with_value c u m = record c { table = record { game = c.table.game; values = slice_set c.table.values u m } }

abbrev pub with_pending : Core → List ℕ → Core
with_pending c vertices = record c { pending = vertices }

-- The worker is idle and v is pending. It then holds v with nothing read, and v is pending no more.
pub record TakesVertex (old : Core) (w v : ℕ) (new : Core) : Type 0 where
  pub idle : slice_get old.workers w ≡ Some Idle
  pub pending : Contains old.pending v
  pub effect : new ≡ with_worker (with_pending old (without v old.pending)) w (Holding v [])

-- The worker holds a vertex that has v among its successors, and hasn't read v. It notes v's value.
pub record ReadsVertex (old : Core) (w v : ℕ) (new : Core) : Type 0 where
  pub u : ℕ
  pub notes : List Note
  pub x : Vertex
  pub holds : slice_get old.workers w ≡ Some (Holding u notes)
  pub held : vertex old.table.game u ≡ Some x
  pub successor : Contains x.successors v
  pub unread : noted notes v ≡ None
  pub effect : new ≡ with_worker old w (Holding u (with_note (record { vertex = v; value = value_in old v }) notes))

-- the worker's vertex u was lifted to m: if that is greater than its value, the table takes it and the worker owes each predecessor of u
abbrev pub after_raise : Core → ℕ → ℕ → Measure → Core
after_raise c w u m =
    if is_lt (measure_cmp (value_in c u) m) then with_worker (with_value c u m) w (owing (predecessors c.table.game u)) else with_worker c w Idle

-- The worker has read all successors of the vertex that it holds. It lifts the vertex from what it noted.
pub record LiftsHeld (old : Core) (w : ℕ) (new : Core) : Type 0 where
  pub u : ℕ
  pub notes : List Note
  pub x : Vertex
  pub values : List Measure
  pub lifted : Measure
  pub holds : slice_get old.workers w ≡ Some (Holding u notes)
  pub held : vertex old.table.game u ≡ Some x
  pub read : AllZip (λ t m. noted notes t ≡ Some m) x.successors values
  pub lift : IsLift old.table.game x (value_in old u) values lifted
  pub effect : new ≡ after_raise old w u lifted

-- The worker owes v. Then v is pending and the worker owes it no more.
pub record Pushes (old : Core) (w v : ℕ) (new : Core) : Type 0 where
  pub owed : List ℕ
  pub owes : slice_get old.workers w ≡ Some (Owing owed)
  pub among : Contains owed v
  pub effect : new ≡ with_worker (with_pending old (with_number v old.pending)) w (owing (without v owed))

-- what the event does, where it can be done
abbrev pub Does : Core → Event → Core → Type 0
Does old (Take w v) new = TakesVertex old w v new
Does old (Read w v) new = ReadsVertex old w v new
Does old (Raise w) new = LiftsHeld old w new
Does old (Push w v) new = Pushes old w v new

-- The event can't be done, and the state stays.
pub record Skips (old : Core) (event : Event) (new : Core) : Type 0 where
  pub nothing : (c : Core) → Does old event c → ⊥
  pub same : new ≡ old

-- one event, which was done or skipped
abbrev pub Step : Core → Event → Bool → Core → Type 0
Step old event done new = MatchBool done (Does old event new) (Skips old event new)

-- From a state these events come to this one; of each event it is said whether it was done.
abbrev pub Steps : Core → List Event → List Bool → Core → Type 0
Steps old [] [] new = new ≡ old
Steps old (event ∷ events) (done ∷ dones) new = (c : Core) × Step old event done c × Steps c events dones new
Steps old _ _ new = ⊥

-- the same, and of each event it is said whether it raised the table
abbrev pub RaisingSteps : Core → List Event → List Bool → List Bool → Core → Type 0
RaisingSteps old [] [] [] new = new ≡ old
RaisingSteps old (event ∷ events) (done ∷ dones) (rose ∷ rises) new =
    (c : Core) × Step old event done c × (IsTrue rose ↔ (c.table.values ≢ old.table.values)) × RaisingSteps c events dones rises new
RaisingSteps old _ _ _ new = ⊥
