use Rattle.std.proofs.Common.{drop}
use Rattle.text.proofs.Writing.{HasWritten}
use Rattle.normal.specs.NormalText.{node_lines}
use Rattle.calculus.specs.NodeView.{nodes_of}
use Rattle.normal.proofs.printer.put_nodes.Given as goal

abbrev pub invariant-loop-number : goal.invariant-loop-number
invariant-loop-number g l =
    HasWritten (g.W.Sink.taken l.initial.writer) (g.W.Sink.taken l.writer) (node_lines 0 (nodes_of l.nodes))
    (node_lines l.number (nodes_of (drop l.number l.nodes)))
