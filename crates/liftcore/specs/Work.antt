-- When a worker can read, raise and push.
use Rattle.std.specs.Prelude.{◌≡◌, ◌<◌, ◌==◌, ℕ, Bool, true, false, List, Contains, None, Some, length, slice_index, slice_index_or}
use Rattle.std.specs.List.{AllZip, list_any}
use Rattle.game.specs.Game.{Game, Vertex, vertex}
use Rattle.measures.specs.Measure.{Measure}
use Rattle.liftcore.specs.Core.{Holding, Note, Owing, Worker, noted}
use Rattle.liftcore.specs.Reading.{successors_read}
use Rattle.liftcore.specs.declared.seat.CoreWorker.{CoreWorker}

-- it holds a vertex that has v among its successors, and hasn't read v
pub record CanRead (g : Game) (worker : Worker) (v : ℕ) : Type 0 where
  pub u : ℕ
  pub notes : List Note
  pub x : Vertex
  pub holds : worker ≡ Holding u notes
  pub held : vertex g u ≡ Some x
  pub successor : Contains x.successors v
  pub unread : noted notes v ≡ None

-- it holds a vertex, and has read all successors
pub record CanRaise (g : Game) (worker : Worker) : Type 0 where
  pub u : ℕ
  pub notes : List Note
  pub x : Vertex
  pub values : List Measure
  pub holds : worker ≡ Holding u notes
  pub held : vertex g u ≡ Some x
  pub read : AllZip (λ t m. noted notes t ≡ Some m) x.successors values

-- it owes v
pub record Owes (worker : Worker) (v : ℕ) : Type 0 where
  pub owed : List ℕ
  pub owes : worker ≡ Owing owed
  pub among : Contains owed v

-- at this place stands v, which isn't read
pub record IsUnread (s : CoreWorker) (v place : ℕ) : Type 0 where
  pub holding : s.holding ≡ true
  pub inside : place < length (successors_read s.turn)
  pub here : slice_index (successors_read s.turn) place ≡ v
  pub unread : slice_index_or s.turn.marks place false ≡ false

-- these vertices are marked, and no other
abbrev pub AreOwed : List ℕ → List Bool → Type 0
AreOwed vertices owed = (v : ℕ) → slice_index_or owed v false ≡ list_any (λ t. t == v) vertices
