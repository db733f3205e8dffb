use Rattle.std.proofs.Common.{◌+◌, arith}
use Rattle.text.proofs.PassedOn.{passed_on}
use Rattle.pgsolver.proofs.Reading.{row_more, too_few, bad_row}
use Rattle.pgsolver.proofs.reader.read_row.Goals as goal

pub returns-then-not-branch-clause-fault : goal.returns-then-not-branch-clause-fault
returns-then-not-branch-clause-fault g c = λ old so.
    too_few c.args.last c.args.good c.from-place.result c.from-place.ensures old _ _ _ _ so
    (rw c.if-not-branch.true at c.in_ok-has_line.ensures) c.requires.due

pub returns-in_err-head-clause-fault : goal.returns-in_err-head-clause-fault
returns-in_err-head-clause-fault g c =
    passed_on c.from_residual-in_err-head.result c.in_err-head.field-0.0 _ c.from_residual-in_err-head.ensures.1
    (λ old so. bad_row c.args.last c.args.good (c.from-place.result + 2) (omega arith) old _ _ _ _ _ so
    (rw c.if-not-branch.false at c.in_ok-has_line.ensures)
    (λ before are. c.in_err-head.ensures.fault before (rw c.deref.ensures.value are)))

pub returns-clause-row : goal.returns-clause-row
returns-clause-row g c = λ old so.
    row_more c.args.last c.args.good old _ _ _ _ _ _ _ c.in_ok-head.head _ so (rw c.if-not-branch.false at c.in_ok-has_line.ensures)
    (rw c.deref.ensures.value at c.in_ok-head.ensures.good) c.in_ok-add.ensures.vertices c.in_ok-add.ensures.places
