use Rattle.liftcore.proofs.Schedules as all
use Rattle.liftcore.proofs.law.one_schedule_fault.Goals as goal

pub returns : goal.returns
returns c = all.one_fault
