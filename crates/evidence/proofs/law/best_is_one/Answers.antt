use Rattle.evidence.proofs.BestMade.{best_is_one}
use Rattle.evidence.proofs.law.best_is_one.Goals as goal

pub returns : goal.returns
returns c = best_is_one
