use Rattle.std.proofs.Common.{◌≡◌, ◌≤◌}
use Rattle.calculus.specs.Normal.{normal_nodes}
use Rattle.why.specs.Story.{lines_before}
use Rattle.why.proofs.setting.told_within.Given as goal

abbrev pub invariant-loop-i : goal.invariant-loop-i
invariant-loop-i l = record {
  few : l.lines ≤ l.limit;
  lines : l.lines ≡ lines_before (normal_nodes l.normal) l.visits l.heads l.i;
}
