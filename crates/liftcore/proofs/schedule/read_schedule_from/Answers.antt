use Rattle.std.proofs.Common.{subst, ℕ, List}
use Rattle.std.specs.Prelude.{IfErr, IfOk, IfSome}
use Rattle.liftcore.specs.Schedule.{IsSchedule, reader_fault_of}
use Rattle.liftcore.specs.Taken.{HasTakenLines, TellsRead}
use Rattle.liftcore.proofs.Schedules.{promised}
use Rattle.liftcore.proofs.Taking.{read_events, read_tells}
use Rattle.liftcore.proofs.schedule.read_schedule_from.Goals as goal

pub returns-clause-reads : goal.returns-clause-reads
returns-clause-reads g c =
    let old = g.R.Source.remaining c.args.reader in
    let intake = c.new.result in
    promised c.args.workers c.args.vertices reader_fault_of old c.read_text.result
    (read_events c.args.workers c.args.vertices old intake c.read_text.result c.new.ensures
    (subst (λ old. IfOk c.read_text.result (λ events. IfSome old (λ left. (workers vertices : ℕ) (text : List ℕ)
    → HasTakenLines workers vertices text left intake → IsSchedule workers vertices text events.items))) c.in-Ok.ensures c.read_text.ensures.events))
    (read_tells c.args.workers c.args.vertices old intake c.read_text.result c.new.ensures
    (subst (λ old. IfErr c.read_text.result (TellsRead old intake)) c.in-Ok.ensures c.read_text.ensures.fault))
