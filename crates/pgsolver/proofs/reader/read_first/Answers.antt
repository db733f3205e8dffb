use Rattle.std.proofs.Common.{arith}
use Rattle.pgsolver.proofs.Judging.{bad_first, over_first, right_first}
use Rattle.pgsolver.proofs.reader.read_first.Goals as goal

pub returns-in_default-clause-fault : goal.returns-in_default-clause-fault
returns-in_default-clause-fault g c = bad_first _ _ (rw c.in_default.is at c.in_ok-last.ensures)

pub returns-then-last-ge-MOST_VERTICES-clause-fault : goal.returns-then-last-ge-MOST_VERTICES-clause-fault
returns-then-last-ge-MOST_VERTICES-clause-fault g c = over_first _ _ c.in-Some.last (rw c.in-Some.is at c.in_ok-last.ensures) (omega arith)

pub returns-clause-first : goal.returns-clause-first
returns-clause-first g c = right_first _ _ c.in-Some.last (rw c.in-Some.is at c.in_ok-last.ensures) (omega arith)
