-- A shard of a game's vertices.
use Rattle.std.specs.Prelude.{◌≡◌, ℕ, ◌<◌, ◌/◌, ◌%◌, List, length}
use Rattle.game.specs.Game.{Game, IsGame}
use Rattle.measures.specs.Measure.{Measure}
use Rattle.measures.specs.Progress.{value_at}
use Rattle.measures.specs.Progs.{bounds}
use Rattle.measures.specs.Tables.{LiesBelow}

-- Of so many shards the one with this index. Its vertices follow each other in steps of that many.
pub record ShardPart : Type 0 where
  pub index : ℕ
  pub shards : ℕ
  pub values : List Measure

-- the vertex is one of the shard's
abbrev pub Has : ShardPart → ℕ → Type 0
Has p v = v % p.shards ≡ p.index

-- its measure
abbrev pub value_of_part : ShardPart → ℕ → Measure
value_of_part p v = value_at p.values (v / p.shards)

-- a value for each of its vertices, and all of them below
pub record IsPart (g : Game) (p : ShardPart) : Type 0 where
  pub game : IsGame g
  pub some : 0 < p.shards
  pub long : (v : ℕ) → v < length g.vertices → v / p.shards < length p.values
  pub below : (v : ℕ) → v < length g.vertices → Has p v → LiesBelow g v (value_of_part p v)

-- a part that is stored in rows of so many counts
pub record IsStoredPart (g : Game) (p : ShardPart) (width : ℕ) : Type 0 where
  pub part : IsPart g p
  pub wide : width ≡ length (bounds g)
