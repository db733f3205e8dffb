use Rattle.std.proofs.Common.{subst, true, false, sym, ◌∙◌}
use Rattle.std.specs.Io.BufRead.{FillKeeps}
use Rattle.evidence.proofs.Shortening.{ran}
use Rattle.evidence.proofs.short.short_on.Goals as goal

pub returns-then-is_end : goal.returns-then-is_end
returns-then-is_end g c =
    let filled = subst (FillKeeps _ (g.B.Read.remaining c.fill_buf.follows.lender-at-none)
    (g.B.BufRead.consumable_len c.fill_buf.follows.lender-at-none)) c.in-Ok.is c.fill_buf.follows.holds-at-none in
    ran c.args.digits c.before_end-count.result c.with_end.result c.in_ok-after.after c.args.kept.now.items c.keep_all.new.kept.items c.in-Ok.block.now true
    _ _ _ (g.B.BufRead.consumable_len c.fill_buf.follows.lender-at-none) c.in-Ok.ensures.front c.in-Ok.ensures.end filled.0 filled.1 c.consume.ensures.bytes
    c.before_end-count.ensures.count c.before_end-count.ensures.within c.with_end.ensures (sym c.if-is_end.true ∙ c.is_end.ensures)
    c.in_ok-after.ensures.digits c.in_ok-after.ensures.kept

pub returns : goal.returns
returns g c =
    let filled = subst (FillKeeps _ (g.B.Read.remaining c.fill_buf.follows.lender-at-none)
    (g.B.BufRead.consumable_len c.fill_buf.follows.lender-at-none)) c.in-Ok.is c.fill_buf.follows.holds-at-none in
    ran c.args.digits c.before_end-count.result c.with_end.result c.in_ok-after.after c.args.kept.now.items c.keep_all.new.kept.items c.in-Ok.block.now false
    _ _ _ (g.B.BufRead.consumable_len c.fill_buf.follows.lender-at-none) c.in-Ok.ensures.front c.in-Ok.ensures.end filled.0 filled.1 c.consume.ensures.bytes
    c.before_end-count.ensures.count c.before_end-count.ensures.within c.with_end.ensures (sym c.if-is_end.false ∙ c.is_end.ensures)
    c.in_ok-after.ensures.digits c.in_ok-after.ensures.kept
