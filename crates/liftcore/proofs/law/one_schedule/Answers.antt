use Rattle.liftcore.proofs.Decided as all
use Rattle.liftcore.proofs.law.one_schedule.Goals as goal

pub returns : goal.returns
returns c = all.one_schedule
