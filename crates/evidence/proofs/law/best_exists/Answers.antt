use Rattle.evidence.proofs.BestMade.{best_exists}
use Rattle.evidence.proofs.law.best_exists.Goals as goal

pub returns : goal.returns
returns c = best_exists
