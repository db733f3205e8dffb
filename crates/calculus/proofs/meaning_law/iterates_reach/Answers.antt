use Rattle.calculus.proofs.Binders
use Rattle.calculus.proofs.meaning_law.iterates_reach.Goals as goal

pub returns : goal.returns
returns c = Binders.iterates_reach
