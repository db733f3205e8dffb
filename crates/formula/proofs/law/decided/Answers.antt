use Rattle.formula.proofs.OneOrOther as one
use Rattle.formula.proofs.law.decided.Goals as goal

pub returns : goal.returns
returns c = one.decided
