use Rattle.evidence.proofs.Sides.{yes_decides}
use Rattle.evidence.proofs.law.yes_decides.Goals as goal

pub returns : goal.returns
returns c = yes_decides
