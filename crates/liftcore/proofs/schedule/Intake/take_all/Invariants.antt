-- the bytes that were taken so far
use Rattle.liftcore.proofs.Taking.{TakesTo}
use Rattle.liftcore.proofs.schedule.Intake.take_all.Given as goal

abbrev pub invariant-loop-byte : goal.invariant-loop-byte
invariant-loop-byte l = TakesTo l.bytes l.byte-index l.initial.self l.self
