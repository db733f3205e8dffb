use Rattle.std.proofs.Common.{arith}
use Rattle.calculus.specs.Normal.{normal_nodes}
use Rattle.calculus.specs.NodeView.{node_of}
use Rattle.rankings.proofs.Bounding.{greatest_more}
use Rattle.rankings.proofs.least.greatest.Goals as goal

pub loop-number-preserved : goal.loop-number-preserved
loop-number-preserved c = omega (
  arith,
  greatest_more c.loop-number.number (normal_nodes c.args.form.now) (node_of c.node.result.now) c.node.ensures,
  c.max-greatest.ensures,
  c.loop-number.invariant,
)
