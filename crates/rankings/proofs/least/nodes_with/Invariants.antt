use Rattle.std.proofs.Common.{◌≡◌, ◌≤◌}
use Rattle.calculus.specs.Normal.{normal_nodes}
use Rattle.rankings.proofs.Bounding.{counted}
use Rattle.rankings.proofs.least.nodes_with.Given as goal

abbrev pub invariant-loop-number : goal.invariant-loop-number
invariant-loop-number l = record {
  is : l.count ≡ counted l.priority l.number (normal_nodes l.form);
  few : l.count ≤ l.number;
}
