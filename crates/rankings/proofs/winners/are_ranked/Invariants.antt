use Rattle.std.proofs.Common.{◌≡◌, ◌<◌, ◌≤◌, ℕ, length}
use Rattle.std.specs.Prelude.{Some, slice_get}
use Rattle.calculus.specs.Nodes.{Node}
use Rattle.calculus.specs.Normal.{normal_nodes}
use Rattle.game.specs.Arena.{vertex_of}
use Rattle.rankings.specs.Cells.{cell, ranking_of}
use Rattle.rankings.specs.Ranking.{IsRanked}
use Rattle.rankings.proofs.winners.are_ranked.Given as goal

abbrev pub invariant-loop-number : goal.invariant-loop-number
invariant-loop-number l = (k s : ℕ) (node : Node) → k < l.number → l.span.first ≤ s → s < l.span.end → slice_get (normal_nodes l.form) k ≡ Some node
    → IsRanked (ranking_of l.sheet) (cell l.sheet k s) (vertex_of l.lts.system (length l.sheet.nodes) s node)
