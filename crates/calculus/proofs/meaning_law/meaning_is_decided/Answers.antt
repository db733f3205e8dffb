use Rattle.calculus.proofs.Binders
use Rattle.calculus.proofs.meaning_law.meaning_is_decided.Goals as goal

pub returns : goal.returns
returns c = Binders.meaning_is_decided
