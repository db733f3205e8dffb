use Rattle.liftcore.specs.Reading.{AreRead}
use Rattle.liftcore.proofs.seat.CoreWorker.is_whole.Given as goal

abbrev pub invariant-loop-place : goal.invariant-loop-place
invariant-loop-place l = AreRead l.self.turn l.place
