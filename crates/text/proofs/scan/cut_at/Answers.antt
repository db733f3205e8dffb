use Rattle.std.proofs.Common.{refl, ◌∙◌}
use Rattle.text.proofs.Scanning.{byte_none, byte_some}
use Rattle.text.proofs.scan.cut_at.Goals as goal

pub returns-in_err-count : goal.returns-in_err-count
returns-in_err-count c = rw c.from_residual.ensures (byte_none c.args.byte c.args.line.now c.in_err-count.ensures)

pub returns : goal.returns
returns c =
    byte_some c.args.byte c.in_ok-count.count c.args.line.now c.in_ok-count.ensures
    ∙ rw (c.split_at.ensures.front, c.split_at-2.ensures.back) refl
