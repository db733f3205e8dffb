-- How the state of several workers is stored.
use Rattle.std.specs.Prelude.{◌≡◌, ◌<◌, ℕ, Bool, true, List, [], ◌∷◌, Some, length, map, replicate, slice_get, if◌then◌else◌}
use Rattle.game.specs.Game.{Game}
use Rattle.measures.specs.Measure.{Measure}
use Rattle.liftcore.specs.Core.{Core, Holding, Idle, Note, Worker, owing}
use Rattle.liftcore.specs.Marks.{members}
use Rattle.liftcore.specs.Reading.{IsReading, SuccessorReading, successors_read}
use Rattle.liftcore.specs.declared.seat.CoreWorker.{CoreWorker}
use Rattle.liftcore.specs.declared.state.CoreParts.{CoreParts}

-- a note for each of these vertices whose value was read
abbrev pub notes_from : List ℕ → List Bool → List Measure → List Note
notes_from (t ∷ ts) (read ∷ marks) (m ∷ values) = if read then record { vertex = t; value = m } ∷ notes_from ts marks values else notes_from ts marks values
notes_from _ _ _ = []

abbrev pub notes_of : SuccessorReading → List Note
notes_of r = notes_from (successors_read r) r.marks r.values

-- the worker holds the vertex of its turn, or owes what is marked
abbrev pub worker_of : CoreWorker → Worker
worker_of s = if s.holding then Holding s.turn.vertex (notes_of s.turn) else owing (members s.owed)

-- The turn is one of the game; a worker that holds a vertex owes none.
pub record IsSeat (g : Game) (s : CoreWorker) : Type 0 where
  pub turn : IsReading s.turn
  pub game : s.turn.game ≡ g
  pub vertex : s.holding ≡ true → s.turn.vertex < length g.vertices
  pub long : length s.owed ≡ length g.vertices
  pub free : s.holding ≡ true → members s.owed ≡ []

abbrev pub core_of : CoreParts → Core
core_of s = record { table = s.table; pending = members s.pending; workers = map worker_of s.seats.items }

-- all parts are of one game
pub record IsState (g : Game) (s : CoreParts) : Type 0 where
  pub game : s.table.game ≡ g
  pub edges : s.predecessors ≡ g
  pub pending : length s.pending ≡ length g.vertices
  pub seats : (w : ℕ) (x : CoreWorker) → slice_get s.seats.items w ≡ Some x → IsSeat g x

-- so many workers, each idle
pub record AreIdle (g : Game) (n : ℕ) (seats : List CoreWorker) : Type 0 where
  pub each : (w : ℕ) (x : CoreWorker) → slice_get seats w ≡ Some x → IsSeat g x
  pub idle : map worker_of seats ≡ replicate n Idle

-- there is such a worker, of which this holds
pub record HasSeat (s : CoreParts) (w : ℕ) (P : CoreWorker → Type 0) : Type 0 where
  pub seat : CoreWorker
  pub here : slice_get s.seats.items w ≡ Some seat
  pub is : P seat
