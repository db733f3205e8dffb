use Rattle.std.proofs.Common.{subst, arith}
use Rattle.std.specs.Io.BufRead.{FillKeeps}
use Rattle.text.proofs.AtHand.{line_taken}
use Rattle.evidence.proofs.Taking.{here_read}
use Rattle.evidence.proofs.reader.at_hand.Goals as goal

pub returns : goal.returns
returns g c =
    let filled = subst (FillKeeps _ (g.B.Read.remaining c.fill_buf.follows.lender-at-none)
    (g.B.BufRead.consumable_len c.fill_buf.follows.lender-at-none)) c.in-Ok.is c.fill_buf.follows.holds-at-none in
    here_read c.in-Some.line.now _ _ c.args.evidence.now c.add_line-added.new.evidence c.add_line-added.result
    (line_taken c.in-Ok.block.now c.in-Some.line.now _ _ _ _ _
    (g.B.BufRead.consumable_len c.fill_buf.follows.lender-at-none) c.in-Ok.ensures.front filled.0 filled.1 c.consume.ensures.bytes c.in-Some.ensures
    (omega arith)) c.add_line-added.ensures.added c.add_line-added.ensures.fault
