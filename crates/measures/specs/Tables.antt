-- Tables of measures that are at most those of every progress table.
use Rattle.std.specs.Prelude.{◌≡◌, ◌<◌, ℕ, Bool, List, Some, if◌then◌else◌, length}
use Rattle.game.specs.Game.{Game, IsGame, Vertex, vertex}
use Rattle.measures.specs.Measure.{IsMeasure, Measure, Top}
use Rattle.measures.specs.Progress.{IsLeastTable, IsUnder, opening_value, value_at, zeros}
use Rattle.measures.specs.Progs.{bounds}

-- a table names its game
pub record GameTable : Type 0 where
  pub game : Game
  pub values : List Measure

-- a measure of the game that is at most the value at v of every progress table
pub record LiesBelow (g : Game) (v : ℕ) (m : Measure) : Type 0 where
  pub measure : IsMeasure g m
  pub under : IsUnder g v m

-- a value for each vertex, and all of them below
pub record IsPlain (t : GameTable) : Type 0 where
  pub game : IsGame t.game
  pub long : length t.values ≡ length t.game.vertices
  pub below : (v : ℕ) → v < length t.game.vertices → LiesBelow t.game v (value_at t.values v)

-- a table that is stored with the bounds of its game's counts, in rows of so many counts, and with its game's predecessors
pub record IsTableStored (t : GameTable) (limits : List ℕ) (width : ℕ) (edges : Game) : Type 0 where
  pub plain : IsPlain t
  pub bounded : limits ≡ bounds t.game
  pub wide : width ≡ length limits
  pub edges_are : edges ≡ t.game

-- the least progress table of its game
pub record IsSettled (t : GameTable) : Type 0 where
  pub game : IsGame t.game
  pub least : IsLeastTable t.game t.values

-- a least progress table that is stored in rows of so many counts
pub record IsStoredSettled (t : GameTable) (width : ℕ) : Type 0 where
  pub settled : IsSettled t
  pub wide : width ≡ length (bounds t.game)

-- whether the opening value of a vertex is top
abbrev pub IsOpening : Game → ℕ → Bool → Type 0
IsOpening g v top = (x : Vertex) × (vertex g v ≡ Some x) × (opening_value g v x ≡ (if top then Top else zeros g))
