use Rattle.std.proofs.Common.{◌+◌, [], arith}
use Rattle.lts.proofs.Judging.{no_row}
use Rattle.pgsolver.proofs.Reading.{past_bad, past_all}
use Rattle.pgsolver.proofs.reader.read_end.Goals as goal

pub returns-then-not-branch-clause-end : goal.returns-then-not-branch-clause-end
returns-then-not-branch-clause-end g c = no_row _ _ (rw c.if-not-branch.true at c.in_ok-has_line.ensures)

pub returns-in_default-clause-fault : goal.returns-in_default-clause-fault
returns-in_default-clause-fault g c = λ old vertices places so.
    past_bad c.args.last (c.from-place.result + 3) (omega arith) old _ _ _ vertices places [] so
    (rw c.if-not-branch.false at c.in_ok-has_line.ensures) (rw c.in_default.is at c.in_ok-vertex.ensures)

pub returns-clause-fault : goal.returns-clause-fault
returns-clause-fault g c = λ old vertices places so.
    past_all c.args.last (c.from-place.result + 3) (omega arith) old _ _ _ vertices places c.in-Some.field-0 c.vertex.new.targets.items so
    (rw c.if-not-branch.false at c.in_ok-has_line.ensures) (rw c.in-Some.is at c.in_ok-vertex.ensures)
