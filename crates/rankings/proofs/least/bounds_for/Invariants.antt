use Rattle.calculus.specs.Nodes.{greatest_node_priority}
use Rattle.std.proofs.Common.{◌≡◌, ◌+◌, ◌*◌, ◌%◌, ◌≤◌, ◌++◌, length, map, max}
use Rattle.calculus.specs.Normal.{normal_nodes}
use Rattle.measures.specs.Measure.{odd_down}
use Rattle.rankings.proofs.Bounding.{bound_at}
use Rattle.rankings.proofs.least.bounds_for.Given as goal

abbrev pub invariant-loop-p : goal.invariant-loop-p
invariant-loop-p l = record {
  rest : l.bounds.items ++ map (bound_at l.states (normal_nodes l.form) l.risen) (odd_down l.p)
      ≡ map (bound_at l.states (normal_nodes l.form) l.risen) (odd_down (max 1 (greatest_node_priority (normal_nodes l.form)) + l.risen));
  few : 2 * length l.bounds.items + l.p + l.p % 2 ≤ 32;
}
