use Rattle.calculus.specs.Nodes.{greatest_node_priority}
use Rattle.std.proofs.Common.{◌≡◌, max, take}
use Rattle.calculus.specs.Normal.{normal_nodes}
use Rattle.rankings.proofs.least.greatest.Given as goal

abbrev pub invariant-loop-number : goal.invariant-loop-number
invariant-loop-number l = l.greatest ≡ max 1 (greatest_node_priority (take l.number (normal_nodes l.form)))
