use Rattle.evidence.proofs.Descent.{descent_is_reaching}
use Rattle.evidence.proofs.law.descent_is_reaching.Goals as goal

pub returns : goal.returns
returns c = descent_is_reaching
