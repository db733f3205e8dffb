use Rattle.std.proofs.Common.{subst}
use Rattle.std.specs.Io.BufRead.{FillKeeps}
use Rattle.lts.proofs.AtHand.{at_hand_is, kept_is}
use Rattle.lts.proofs.scan.at_hand.Goals as goal

pub returns : goal.returns
returns g c =
    let filled = subst (FillKeeps _ (g.B.Read.remaining c.fill_buf.follows.lender-at-none)
    (g.B.BufRead.consumable_len c.fill_buf.follows.lender-at-none)) c.in-Ok.is c.fill_buf.follows.holds-at-none in
    at_hand_is _ c.in-Ok.block.now c.in-Some.line.label.now c.in-Some.line.source c.in-Some.line.target c.in-Some.line.len _ _ _
    (g.B.BufRead.consumable_len c.fill_buf.follows.lender-at-none) c.in-Ok.ensures.front filled.0 filled.1 c.consume.ensures.bytes c.in-Some.ensures.within
    c.in-Some.ensures.plain
    (kept_is c.min-most.result _ _ c.in-Some.line.label.now c.in_ok-extend_from_slice.ensures.items c.clear.ensures.items c.min-most.ensures)
