use Rattle.std.proofs.Common.{arith}
use Rattle.normal.proofs.Printing.{next_greatest, none_greatest}
use Rattle.normal.proofs.printer.greatest_priority.Goals as goal

pub loop-node-preserved : goal.loop-node-preserved
loop-node-preserved c = omega (arith, next_greatest c.args.nodes.now c.loop-node.node-index _ c.loop-node-test.true c.node-item.is)

pub returns : goal.returns
returns c = omega (arith, none_greatest c.args.nodes.now c.loop-node.node-index c.loop-node-test.false)
