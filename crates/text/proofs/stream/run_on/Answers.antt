use Rattle.std.proofs.Common.{subst}
use Rattle.std.specs.Io.BufRead.{FillKeeps}
use Rattle.text.proofs.Streaming.{ran}
use Rattle.text.proofs.stream.run_on.Goals as goal

pub returns : goal.returns
returns g c =
    let filled = subst (FillKeeps _ (g.B.Read.remaining c.fill_buf.follows.lender-at-none)
    (g.B.BufRead.consumable_len c.fill_buf.follows.lender-at-none)) c.in-Ok.is c.fill_buf.follows.holds-at-none in
    ran c.args.class c.args.most c.count_of-count.result c.args.kept.now.items c.keep.new.kept.items c.in-Ok.block.now c.is_all-ended.result _ _ _
    (g.B.BufRead.consumable_len c.fill_buf.follows.lender-at-none) c.in-Ok.ensures.front c.in-Ok.ensures.end filled.0 filled.1 c.consume.ensures.bytes
    c.count_of-count.ensures.count c.count_of-count.ensures.within c.is_all-ended.ensures c.in_ok-keep.ensures
