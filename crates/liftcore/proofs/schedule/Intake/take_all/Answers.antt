use Rattle.text.proofs.PassedOn.{passed_on}
use Rattle.liftcore.specs.Taken.{Tells}
use Rattle.liftcore.proofs.Taking.{one_tells}
use Rattle.liftcore.proofs.schedule.Intake.take_all.Goals as goal

pub returns-in_err-take-clause-fault : goal.returns-in_err-take-clause-fault
returns-in_err-take-clause-fault c =
    passed_on c.from_residual.result c.in_err-take.field-0.0 (Tells c.args.bytes.now c.args.self.now) c.from_residual.ensures.1
    (one_tells c.args.bytes.now c.loop-byte.byte-index c.args.self.now c.loop-byte.self c.in_err-take.field-0.0 c.loop-byte-test.true c.loop-byte.invariant
    c.in_err-take.ensures.fault)
