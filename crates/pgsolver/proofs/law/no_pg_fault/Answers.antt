use Rattle.pgsolver.proofs.Faults as faults
use Rattle.pgsolver.proofs.law.no_pg_fault.Goals as goal

pub returns : goal.returns
returns c = faults.no_fault
