use Rattle.evidence.proofs.Kept.{arrows_keep_steps}
use Rattle.evidence.proofs.law.arrows_keep_steps.Goals as goal

pub returns : goal.returns
returns c = arrows_keep_steps
