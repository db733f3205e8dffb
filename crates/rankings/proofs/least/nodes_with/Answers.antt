use Rattle.std.proofs.Common.{arith}
use Rattle.calculus.specs.Normal.{normal_nodes}
use Rattle.calculus.specs.NodeView.{node_of}
use Rattle.rankings.proofs.Bounding.{counted_no, counted_yes}
use Rattle.rankings.proofs.least.nodes_with.Goals as goal
use Rattle.rankings.proofs.least.nodes_with.Goals.{then-node-priority, else-node-priority}

pub loop-number-preserved : goal.loop-number-preserved
loop-number-preserved c = let old = c.loop-number.invariant.is in let low = c.loop-number.invariant.few in elim c.if-node-priority.branch [
  | then-node-priority w ↦ (
      let more = counted_yes c.args.priority c.loop-number.number (normal_nodes c.args.form.now) (node_of c.node.result.now) c.node.ensures w.if-node-priority.true in
      let e = w.count-is in
      record { is = omega arith; few = omega arith })
  | else-node-priority w ↦ (
      let more = counted_no c.args.priority c.loop-number.number (normal_nodes c.args.form.now) (node_of c.node.result.now) c.node.ensures w.if-node-priority.false in
      let e = w.count-is in
      record { is = omega arith; few = omega arith })
]
