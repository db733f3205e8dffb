use Rattle.std.proofs.Common.{refl}
use Rattle.lts.proofs.Judging.{a_row}
use Rattle.lts.proofs.Reading.{too_many}
use Rattle.lts.proofs.reader.read_end.Goals as goal

pub returns-then-branch-clause-fault : goal.returns-then-branch-clause-fault
returns-then-branch-clause-fault g c = λ old labels transitions so.
    too_many c.args.found c.args.found.transitions c.from-line.result c.from-line.ensures refl old _ labels transitions so
    (a_row _ _ (rw c.if-branch.true at c.in_ok-has_line.ensures))
