use Rattle.formula.proofs.OneText as none
use Rattle.formula.proofs.law.no_formula_fault.Goals as goal

pub returns : goal.returns
returns c = none.no_fault
