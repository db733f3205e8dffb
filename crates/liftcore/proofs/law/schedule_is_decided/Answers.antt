use Rattle.liftcore.proofs.Decided as all
use Rattle.liftcore.proofs.law.schedule_is_decided.Goals as goal

pub returns : goal.returns
returns c = all.decided
