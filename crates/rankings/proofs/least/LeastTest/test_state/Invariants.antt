use Rattle.std.proofs.Common.{length}
use Rattle.calculus.specs.Normal.{normal_nodes}
use Rattle.game.specs.Arena.{place}
use Rattle.rankings.specs.Least.{AreTestedTo}
use Rattle.rankings.proofs.least.LeastTest.test_state.Given as goal

abbrev pub invariant-loop-number : goal.invariant-loop-number
invariant-loop-number l = AreTestedTo l.self l.moves.items (place (length (normal_nodes l.self.form.now)) l.state l.number)
