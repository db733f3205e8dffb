use Rattle.calculus.proofs.Binders
use Rattle.calculus.proofs.meaning_law.body_is_monotone.Goals as goal

pub returns : goal.returns
returns c = Binders.body_is_monotone
