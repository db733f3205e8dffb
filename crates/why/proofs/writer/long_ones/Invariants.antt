use Rattle.std.proofs.Common.{◌≡◌}
use Rattle.calculus.specs.Normal.{normal_nodes}
use Rattle.why.specs.Story.{long_before}
use Rattle.why.proofs.writer.long_ones.Given as goal

abbrev pub invariant-loop-i : goal.invariant-loop-i
invariant-loop-i l = l.long.items ≡ long_before (normal_nodes l.story.normal.now) l.story.visits.now l.i
