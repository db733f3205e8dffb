use Rattle.std.proofs.Common.{arith, length, refl, ◌+◌, ◌≤◌, []}
use Rattle.evidence.proofs.Gathered.{all_read, few_good, nothing_yet}
use Rattle.evidence.proofs.Taking.{next_bad, next_more, none_taken}
use Rattle.evidence.proofs.reader.read_lines.Goals as goal

pub loop-reader-init : goal.loop-reader-init
loop-reader-init g c = nothing_yet c.args.evidence.now _ c.requires.none

pub returns-in-Err-clause-fault : goal.returns-in-Err-clause-fault
returns-in-Err-clause-fault g c =
    next_bad c.args.evidence.now c.loop-reader.good c.loop-reader.good refl (g.B.Read.remaining c.args.reader.now) _ _ _ _ c.in-Err.fault c.loop-reader.invariant
    (rw c.if-branch.true at c.in_ok-has_line.ensures) (rw c.in-Err.is at c.in_ok-fault.ensures)

pub loop-reader-smaller : goal.loop-reader-smaller
loop-reader-smaller g c =
    let next = next_more c.args.evidence.now c.loop-reader.good (g.B.Read.remaining c.args.reader.now) _ _ _ _ _ c.loop-reader.invariant
    (rw c.if-branch.true at c.in_ok-has_line.ensures) (rw c.in_default.is at c.in_ok-fault.ensures) in
    let few : c.loop-reader.good + 1 ≤ length c.args.evidence.now.evidence.entries = few_good _ _ _ _ _ next in
    omega arith

pub loop-reader-preserved : goal.loop-reader-preserved
loop-reader-preserved g c =
    next_more c.args.evidence.now c.loop-reader.good (g.B.Read.remaining c.args.reader.now) _ _ _ _ _ c.loop-reader.invariant (rw c.if-branch.true at c.in_ok-has_line.ensures)
    (rw c.in_default.is at c.in_ok-fault.ensures)

pub returns-clause-lines : goal.returns-clause-lines
returns-clause-lines g c = all_read _ _ (g.B.Read.remaining c.args.reader.now) _ _ [] _ c.loop-reader.invariant
    (none_taken _ _ [] (rw c.if-branch.false at c.in_ok-has_line.ensures))
