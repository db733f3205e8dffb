use Rattle.evidence.proofs.Sides.{best_is_yes}
use Rattle.evidence.proofs.law.best_is_yes.Goals as goal

pub returns : goal.returns
returns c = best_is_yes
