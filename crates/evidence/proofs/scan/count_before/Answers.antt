use Rattle.std.proofs.Common.{[]}
use Rattle.evidence.proofs.Scanning.{no_end, no_number, one_count, too_great}
use Rattle.evidence.proofs.scan.count_before.Goals as goal

pub returns-in_err-count : goal.returns-in_err-count
returns-in_err-count c = rw c.from_residual.ensures (no_end c.args.end c.args.bytes.now [] [] c.in_err-count.ensures)

pub returns-in_err-count-2 : goal.returns-in_err-count-2
returns-in_err-count-2 c = rw c.from_residual-in_err-count-2.ensures (no_number c.args.end c.args.bytes.now _ _ c.in_ok-count.ensures c.in_err-count-2.ensures)

pub returns-then-count-gt-GREATEST_COUNT : goal.returns-then-count-gt-GREATEST_COUNT
returns-then-count-gt-GREATEST_COUNT c = too_great c.args.end c.args.bytes.now _ _ _ c.in_ok-count.ensures c.in_ok-count-2.ensures
    c.if-count-gt-GREATEST_COUNT.true

pub returns : goal.returns
returns c = one_count c.args.end c.args.bytes.now _ _ _ c.in_ok-count.ensures c.in_ok-count-2.ensures c.if-count-gt-GREATEST_COUNT.false
