use Rattle.text.proofs.PassedOn.{passed_on}
use Rattle.liftcore.proofs.Taking.{finished, last_finished, last_tells}
use Rattle.liftcore.proofs.schedule.Intake.finish.Goals as goal

pub returns-then-is_empty-clause-events : goal.returns-then-is_empty-clause-events
returns-then-is_empty-clause-events c = λ workers vertices text h.
    finished workers vertices text c.args.self (rw c.if-is_empty.true at c.is_empty.ensures) h

pub returns-clause-events : goal.returns-clause-events
returns-clause-events c = λ workers vertices text h.
    last_finished workers vertices text c.args.self c.end_line.new.self (rw c.if-is_empty.false at c.is_empty.ensures) c.in_ok-end_line.ensures.event h

pub returns-in_err-end_line-clause-fault : goal.returns-in_err-end_line-clause-fault
returns-in_err-end_line-clause-fault c =
    passed_on c.from_residual.result c.in_err-end_line.field-0.0 _ c.from_residual.ensures.1
    (last_tells c.args.self c.in_err-end_line.field-0.0 (rw c.if-is_empty.false at c.is_empty.ensures) c.in_err-end_line.ensures.fault)
