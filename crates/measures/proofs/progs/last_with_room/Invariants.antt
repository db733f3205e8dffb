use Rattle.measures.specs.Progs.{AreAtBounds}
use Rattle.measures.proofs.progs.last_with_room.Given as goal

abbrev pub invariant-loop-k : goal.invariant-loop-k
invariant-loop-k l = AreAtBounds l.bounds l.counts l.k l.kept
