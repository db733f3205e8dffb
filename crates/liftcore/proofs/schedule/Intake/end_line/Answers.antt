use Rattle.std.proofs.Common.{◌+◌, arith, subst, sym}
use Rattle.liftcore.specs.Taken.{EventsSoFar}
use Rattle.liftcore.proofs.Schedules.{faulty, one_more}
use Rattle.liftcore.proofs.schedule.Intake.end_line.Goals as goal

pub returns-in-Ok-push-clause-event : goal.returns-in-Ok-push-clause-event
returns-in-Ok-push-clause-event c = λ line text left rest begun so next.
    let old = c.args.self.now in
    let good = c.in-Ok.ensures line (c.event.ensures line begun) in
    subst (λ events. EventsSoFar old.workers old.vertices text rest events) (sym c.in-Ok-push.ensures.items)
    (one_more old.workers old.vertices text left line rest old.events.items c.in-Ok.event so next good.0 good.1)

pub returns-in-Err-clause-fault : goal.returns-in-Err-clause-fault
returns-in-Err-clause-fault c = λ line text left rest begun so next.
    let old = c.args.self.now in
    faulty old.workers old.vertices text left line rest old.events.items c.in-Err.fault (c.len.result + 1) so next
    (c.in-Err.ensures line (c.event.ensures line begun)) (omega (arith, c.len.ensures))
