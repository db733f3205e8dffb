use Rattle.evidence.proofs.Taking.{header_is, header_none, no_line}
use Rattle.evidence.proofs.reader.read_header.Goals as goal

pub returns-then-not-branch-clause-fault : goal.returns-then-not-branch-clause-fault
returns-then-not-branch-clause-fault g c = no_line _ _ (rw c.if-not-branch.true at c.in_ok-has_line.ensures)

pub returns-in-Some-clause-first : goal.returns-in-Some-clause-first
returns-in-Some-clause-first g c = header_is c.in-Some.player c.short_line.new.kept.items _ _ _ (rw c.if-not-branch.false at c.in_ok-has_line.ensures)
    c.in_ok-short_line.ensures (rw c.deref.ensures.value at c.in-Some.ensures)

pub returns-in-None-clause-fault : goal.returns-in-None-clause-fault
returns-in-None-clause-fault g c = header_none c.short_line.new.kept.items _ _ _ (rw c.if-not-branch.false at c.in_ok-has_line.ensures)
    c.in_ok-short_line.ensures (rw c.deref.ensures.value at c.in-None.ensures)
