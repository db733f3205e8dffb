use Rattle.std.proofs.Common.{length}
use Rattle.evidence.specs.Witness.{Goes}
use Rattle.witness.specs.Walk.{IsMarkedWalk, vertices_left}
use Rattle.witness.proofs.walk.reached.Given as goal

abbrev pub invariant-loop-u : goal.invariant-loop-u
invariant-loop-u l = IsMarkedWalk (length l.game.vertices) (Goes l.game l.evidence.evidence) l.root l.marks.items l.waiting.items

abbrev pub decreases-loop-u : goal.decreases-loop-u
decreases-loop-u l = vertices_left l.marks.items l.waiting.items
