use Rattle.rankings.specs.Least.{AreTestedTo}
use Rattle.rankings.proofs.least.LeastTest.test_sinks.Given as goal

abbrev pub invariant-loop-sink : goal.invariant-loop-sink
invariant-loop-sink l = AreTestedTo l.self l.moves.items l.sink
