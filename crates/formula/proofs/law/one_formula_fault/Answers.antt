use Rattle.formula.proofs.OneText as one
use Rattle.formula.proofs.law.one_formula_fault.Goals as goal

pub returns : goal.returns
returns c = one.one_fault
