use Rattle.std.proofs.Common.{◌<◌, ◌^◌, arith}
use Rattle.lts.proofs.Judging.{as_kept, row_read, row_wrong, row_none, no_row}
use Rattle.lts.proofs.Reading.{line_more, too_few, bad_row}
use Rattle.lts.proofs.reader.read_row.Goals as goal

pub returns-then-not-branch-clause-fault : goal.returns-then-not-branch-clause-fault
returns-then-not-branch-clause-fault g c = λ old so.
    too_few c.args.found c.args.good c.from-line.result c.from-line.ensures old _ _ _ _ so
    (no_row _ _ (rw c.if-not-branch.true at c.in_ok-has_line.ensures)) c.requires.due

pub returns-in_default-clause-fault : goal.returns-in_default-clause-fault
returns-in_default-clause-fault g c = λ old so.
    bad_row c.args.found c.args.good c.from-line.result c.from-line.ensures old _ _ _ _ so
    (row_none c.args.found.states c.transition.new.kept.label.items _ _ _ (rw c.if-not-branch.false at c.in_ok-has_line.ensures)
    (rw c.in_default.is at c.in_ok-ends.ensures)) c.requires.due

pub returns-in-Some-row_fault-clause-fault : goal.returns-in-Some-row_fault-clause-fault
returns-in-Some-row_fault-clause-fault g c = λ old so.
    bad_row c.args.found c.args.good c.from-line.result c.from-line.ensures old _ _ _ _ so
    (row_wrong c.args.found.states c.in-Some.ends c.transition.new.kept.label.items c.in-Some-row_fault.fault _ _ _
    (rw c.if-not-branch.false at c.in_ok-has_line.ensures) (rw c.in-Some.is at c.in_ok-ends.ensures)
    (rw c.deref.ensures.value at c.in-Some-row_fault.ensures.some))
    c.requires.due

pub returns-in_ok-add-in-None-clause-row : goal.returns-in_ok-add-in-None-clause-row
returns-in_ok-add-in-None-clause-row g c = λ old so.
    let is = rw c.deref.ensures.value at c.in-None.ensures.none in
    let fits : c.args.found.states < 2 ^ 32 = omega (arith, c.requires.admitted.states) in
    line_more c.args.found.states c.args.good old _ _ _ _ _ _ (as_kept c.in-Some.ends c.transition.new.kept.label.items) so
    (row_read c.args.found.states c.in-Some.ends c.transition.new.kept.label.items _ _ _ fits (rw c.if-not-branch.false at c.in_ok-has_line.ensures)
    (rw c.in-Some.is at c.in_ok-ends.ensures) is) is
    (rw c.deref.ensures.value at c.in_ok-add-in-None.ensures.added)
