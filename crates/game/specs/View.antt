-- What a game of the program stands for.
use Rattle.std.specs.Prelude.{◌≡◌, ℕ, ◌+◌, ◌≤◌, List, length, map, take, drop, count_by, slice_index, ◌==◌}
use Rattle.std.specs.List.{AllByRecursion}
use Rattle.game.specs.declared.limits.TheConstants.{MOST_VERTICES}
use Rattle.game.specs.Game.{Vertex, Game, IsGame, greatest}
use Rattle.game.specs.declared.graph.VertexRow.{VertexRow}
use Rattle.game.specs.declared.graph.Game.TheInside as game
use Rattle.game.specs.declared.graph.GameBuilder.TheInside as builder

-- the vertex of a row, whose successors stand in this list
abbrev pub vertex_of_row : List ℕ → VertexRow → Vertex
vertex_of_row successors row = record { owner = row.owner; priority = row.priority; successors = take row.count (drop row.start successors) }

-- the row, where the list of its successors comes after so many others
abbrev pub moved : ℕ → VertexRow → VertexRow
moved places row = record { start = row.start + places; count = row.count; owner = row.owner; priority = row.priority }

abbrev pub vertices_of : List VertexRow → List ℕ → List Vertex
vertices_of rows successors = map (vertex_of_row successors) rows

-- Each row's successors stand in the list, and there is a count for each priority.
pub record AreStored (rows : List VertexRow) (successors counts : List ℕ) : Type 0 where
  pub within : AllByRecursion (λ row. row.start + row.count ≤ length successors) rows
  pub counted : (p : ℕ) → p ≤ 32 → slice_index counts p ≡ count_by (λ v. v.priority == p) (vertices_of rows successors)

abbrev pub game_of : game.Inside → Game
game_of a = record { vertices = vertices_of a.rows.items a.successors.items; named = a.named }

pub record IsStoredGame (a : game.Inside) : Type 0 where
  pub game : IsGame (game_of a)
  pub stored : AreStored a.rows.items a.successors.items a.counts
  pub greatest : a.greatest ≡ greatest (game_of a)

abbrev pub vertices_in : builder.Inside → List Vertex
vertices_in a = vertices_of a.rows.items a.successors.items

pub record IsStoredBuilder (a : builder.Inside) : Type 0 where
  pub limit : length a.rows.items ≤ MOST_VERTICES
  pub stored : AreStored a.rows.items a.successors.items a.counts
