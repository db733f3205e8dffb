use Rattle.std.proofs.Common.{◌≡◌, max, drop}
use Rattle.calculus.specs.Nodes.{greatest_node_priority}
use Rattle.calculus.specs.NodeView.{nodes_of}
use Rattle.normal.proofs.printer.greatest_priority.Given as goal

abbrev pub invariant-loop-node : goal.invariant-loop-node
invariant-loop-node l = max l.greatest (greatest_node_priority (nodes_of (drop l.node-index l.nodes))) ≡ greatest_node_priority (nodes_of l.nodes)
