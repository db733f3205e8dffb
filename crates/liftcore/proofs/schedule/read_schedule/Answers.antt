use Rattle.std.proofs.Common.{Some}
use Rattle.std.proofs.lemmas.Result.{IfErr-weaker, IfOk-weaker}
use Rattle.liftcore.specs.Schedule.{schedule_fault_of}
use Rattle.liftcore.proofs.Schedules.{promised, refused_by}
use Rattle.liftcore.proofs.Taking.{whole_taken, whole_tells}
use Rattle.liftcore.proofs.schedule.read_schedule.Goals as goal

pub returns-in_err-take_all : goal.returns-in_err-take_all
returns-in_err-take_all c =
    let text = c.args.text.now in
    let error = c.in_err-take_all.field-0.0 in
    record {
      reads = refused_by c.args.workers c.args.vertices schedule_fault_of (Some text) c.from_residual.result error c.from_residual.ensures.1
          (whole_tells c.args.workers c.args.vertices text c.new-intake.result error (c.new-intake.ensures text) c.in_err-take_all.ensures.fault);
    }

pub returns : goal.returns
returns c =
    let text = c.args.text.now in
    let begins = c.new-intake.ensures text in
    let all = whole_taken c.args.workers c.args.vertices text c.new-intake.result c.take_all.new.self begins c.in_ok-take_all.ensures.taken in
    record {
      reads = promised c.args.workers c.args.vertices schedule_fault_of (Some text) c.finish.result
          (IfOk-weaker c.finish.result _ _ (λ v is. is c.args.workers c.args.vertices text all) c.finish.ensures.events)
          (IfErr-weaker c.finish.result _ _ (λ e is. is c.args.workers c.args.vertices text all) c.finish.ensures.fault);
    }
