use Rattle.std.proofs.Common.{◌≡◌, length}
use Rattle.liftcore.proofs.turn.tops.Given as goal

abbrev pub invariant-loop : goal.invariant-loop
invariant-loop l = length l.values.items ≡ l.counter
