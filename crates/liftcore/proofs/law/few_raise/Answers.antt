use Rattle.liftcore.proofs.Rises.{few_raise}
use Rattle.liftcore.proofs.law.few_raise.Goals as goal

pub returns : goal.returns
returns c = few_raise
