use Rattle.game.proofs.Common.{ap, length, arith, is_in, node_of, Vertex}
use Rattle.game.proofs.Steps.{successors_few}
use Rattle.game.proofs.build.push_node.Goals as goal

pub push-requires-clause-few : goal.push-requires-clause-few
push-requires-clause-few c = omega (
  arith,
  successors_few (is_in c.args.set.now) c.args.row.now c.args.nodes c.args.state (node_of c.args.node.now) c.requires.inside,
  ap (λ (x : Vertex). length x.successors) c.in_ok-vertex.ensures,
)
