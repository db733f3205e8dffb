use Rattle.std.proofs.Common.{subst}
use Rattle.std.specs.Io.BufRead.{FillKeeps}
use Rattle.pgsolver.proofs.AtHand.{at_hand_is}
use Rattle.pgsolver.proofs.intake.at_hand.Goals as goal

pub returns : goal.returns
returns g c =
    let filled = subst (FillKeeps _ (g.B.Read.remaining c.fill_buf.follows.lender-at-none)
    (g.B.BufRead.consumable_len c.fill_buf.follows.lender-at-none)) c.in-Ok.is c.fill_buf.follows.holds-at-none in
    at_hand_is c.in-Ok.block.now c.plain_line.new.targets.items c.in-Some.line.head c.in-Some.line.len _ _ _
    (g.B.BufRead.consumable_len c.fill_buf.follows.lender-at-none) c.in-Ok.ensures.front filled.0 filled.1 c.consume.ensures.bytes
    (rw c.in-Some.is at c.in_ok-line.ensures.within) (rw c.in-Some.is at c.in_ok-line.ensures.line)
