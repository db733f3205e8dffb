-- The state of several workers that lift one table.
use Rattle.std.specs.Prelude.{ℕ, Bool, true, false, ◌&&◌, List, [], ◌∷◌, length, filter, find, not, replicate, Option, option_map, ◌==◌, nat_lt, if◌then◌else◌}
use Rattle.std.specs.List.{list_all, range_with_len}
use Rattle.game.specs.Game.{Game}
use Rattle.measures.specs.Measure.{Measure}
use Rattle.measures.specs.Progress.{opening}
use Rattle.measures.specs.Tables.{GameTable}

-- the value that a worker read at a vertex
pub record Note : Type 0 where
  pub vertex : ℕ
  pub value : Measure

-- A worker is idle, or holds a vertex and what it has read for it, by vertex, or owes vertices, at least one, ascending.
pub data Worker : Type 0 where
  Idle : Worker
  Holding : (vertex : ℕ) → (notes : List Note) → Worker
  Owing : (owed : List ℕ) → Worker

-- the table of a game, the set of the pending vertices, ascending, and the workers by number
pub record Core : Type 0 where
  pub table : GameTable
  pub pending : List ℕ
  pub workers : List Worker

-- the opening table, each vertex pending and each worker idle
abbrev pub starting_core : Game → ℕ → Core
starting_core g workers = record {
  table = record { game = g; values = opening g };
  pending = range_with_len 0 (length g.vertices);
  workers = replicate workers Idle;
}

abbrev pub is_idle : Worker → Bool
is_idle Idle = true
is_idle _ = false

abbrev pub is_empty : List ℕ → Bool
is_empty [] = true
is_empty (v ∷ vs) = false

-- nothing is pending, and every worker is idle
abbrev pub is_quiet : Core → Bool
is_quiet c = is_empty c.pending && list_all is_idle c.workers

-- one more note in its place, by the vertex
abbrev pub with_note : Note → List Note → List Note
with_note x [] = x ∷ []
with_note x (y ∷ ys) = if nat_lt x.vertex y.vertex then x ∷ y ∷ ys else y ∷ with_note x ys

-- what was noted of a vertex
abbrev pub noted : List Note → ℕ → Option Measure
noted notes v = option_map (λ x. x.value) (find (λ x. x.vertex == v) notes)

-- a worker that owes these, and is idle where there are none
abbrev pub owing : List ℕ → Worker
owing [] = Idle
owing (v ∷ vs) = Owing (v ∷ vs)

-- all of them but this
abbrev pub without : ℕ → List ℕ → List ℕ
without v numbers = filter (λ u. not (u == v)) numbers
