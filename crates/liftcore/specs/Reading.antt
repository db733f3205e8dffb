-- What a worker has read for a vertex.
use Rattle.std.specs.Prelude.{◌≡◌, ◌<◌, ◌≤◌, ℕ, Bool, false, true, List, length, slice_index, slice_index_or, take}
use Rattle.game.specs.Game.{Game, IsGame, vertex}
use Rattle.game.specs.Predecessors.{successors_at}
use Rattle.measures.specs.Measure.{Measure, Top}
use Rattle.measures.specs.Tables.{LiesBelow}

-- Whether the vertex's successors were read, one after another, and which values; past the last successor all is free.
pub record SuccessorReading : Type 0 where
  pub game : Game
  pub vertex : ℕ
  pub marks : List Bool
  pub values : List Measure

abbrev pub successors_read : SuccessorReading → List ℕ
successors_read r = successors_at (vertex r.game r.vertex)

abbrev pub IsReadAt : SuccessorReading → ℕ → Type 0
IsReadAt r k = slice_index_or r.marks k false ≡ true

-- the first so many successors are read
abbrev pub AreRead : SuccessorReading → ℕ → Type 0
AreRead r n = (k : ℕ) → k < n → IsReadAt r k

-- the values at the successors
abbrev pub values_of : SuccessorReading → List Measure
values_of r = take (length (successors_read r)) r.values

-- there is room for each vertex, and what was read lies below
pub record IsReading (r : SuccessorReading) : Type 0 where
  pub game : IsGame r.game
  pub even : length r.values ≡ length r.marks
  pub room : (v : ℕ) → v < length r.game.vertices → length (successors_at (vertex r.game v)) ≤ length r.marks
  pub below : (k : ℕ) → k < length (successors_read r) → IsReadAt r k → LiesBelow r.game (slice_index (successors_read r) k) (slice_index_or r.values k Top)

-- the turn is at the vertex, and nothing is read
pub record BeginsTurn (g : Game) (v : ℕ) (r : SuccessorReading) : Type 0 where
  pub game : r.game ≡ g
  pub vertex : r.vertex ≡ v
  pub unread : (k : ℕ) → k < length (successors_read r) → slice_index_or r.marks k false ≡ false
