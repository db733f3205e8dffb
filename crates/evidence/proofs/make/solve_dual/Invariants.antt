use Rattle.std.proofs.Common.{◌≡◌}
use Rattle.evidence.proofs.make.solve_dual.Given as goal

abbrev pub invariant-loop-v : goal.invariant-loop-v
invariant-loop-v l = l.table.game ≡ l.turned
