use Rattle.lts.proofs.Faults as faults
use Rattle.lts.proofs.law.no_aut_fault.Goals as goal

pub returns : goal.returns
returns c = faults.no_fault
