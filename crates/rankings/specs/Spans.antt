-- Spans of states.
use Rattle.std.specs.Prelude.{◌≡◌, ℕ, ◌<◌, ◌≤◌, List, Some, length, slice_get}
use Rattle.systems.specs.Numbered.{Numbered}
use Rattle.calculus.specs.Nodes.{Node}
use Rattle.game.specs.Arena.{vertex_of}
use Rattle.rankings.specs.Cells.{Cells, cell, ranking_of}
use Rattle.rankings.specs.Ranking.{IsRanked}

-- The vertices of all nodes with the states from the first one up to the end are ranked.
abbrev pub AreRanked : Numbered → List Node → Cells → ℕ → ℕ → Type 0
AreRanked l nodes c first end = (s k : ℕ) (node : Node) → first ≤ s → s < end → slice_get nodes k ≡ Some node
    → IsRanked (ranking_of c) (cell c k s) (vertex_of l.system (length c.nodes) s node)
