use Rattle.lts.proofs.Judging.{bad_first, over_first, right_first}
use Rattle.lts.proofs.reader.read_first.Goals as goal

pub returns-in_default-clause-fault : goal.returns-in_default-clause-fault
returns-in_default-clause-fault g c = bad_first _ _ (rw c.in_default.is at c.in_ok-found.ensures)

pub returns-in-None-clause-first : goal.returns-in-None-clause-first
returns-in-None-clause-first g c = right_first _ _ c.in-Some.found (rw c.in-Some.is at c.in_ok-found.ensures) c.in-None.ensures.none

pub returns-in-Some-first_fault-clause-fault : goal.returns-in-Some-first_fault-clause-fault
returns-in-Some-first_fault-clause-fault g c = over_first _ _ c.in-Some.found c.in-Some-first_fault.fault
    (rw c.in-Some.is at c.in_ok-found.ensures) c.in-Some-first_fault.ensures.some
