use Rattle.std.proofs.Common.{length}
use Rattle.calculus.specs.Normal.{normal_nodes}
use Rattle.game.specs.Arena.{place}
use Rattle.rankings.specs.Least.{AreTestedTo}
use Rattle.rankings.proofs.least.LeastTest.test_all.Given as goal

abbrev pub invariant-loop-state : goal.invariant-loop-state
invariant-loop-state l = AreTestedTo l.self l.moves.items (place (length (normal_nodes l.self.form.now)) l.state 0)
