use Rattle.liftcore.proofs.Schedules as all
use Rattle.liftcore.proofs.law.no_schedule_fault.Goals as goal

pub returns : goal.returns
returns c = all.no_fault
