use Rattle.measures.proofs.Common.{◌∙◌, ap, arith, length, slice_set, sym, true≢false, Counts, Measure}
use Rattle.measures.proofs.Bests.{counts_back}
use Rattle.measures.proofs.Stored.{counts_wide, long_is, set_top}
use Rattle.measures.proofs.rows.MeasureRows.set.Goals as goal

pub index_mut-requires : goal.index_mut-requires
index_mut-requires c =
    let i = c.self.inside in
    let long = long_is i.width i.tops.items i.counts.items c.args.self.now c.self.view_is in
    let inside = c.requires.vertex in
    omega arith

pub returns-then-is_top : goal.returns-then-is_top
returns-then-is_top c =
    let i = c.self.inside in
    set_top i.width i.tops.items i.counts.items c.args.self.now c.self.view_is c.args.v c.args.m.now (c.is_top.ensures.0 c.if-is_top.true)

pub set_counts-requires-clause-width : goal.set_counts-requires-clause-width
set_counts-requires-clause-width c = ap length c.counts.ensures.value
    ∙ counts_wide c.args.self.now.width c.args.m.now c.requires.width (λ e. true≢false (sym (c.is_top.ensures.1 e) ∙ c.if-is_top.false))

pub returns-else-is_top : goal.returns-else-is_top
returns-else-is_top c =
    let back = ap Counts c.counts.ensures.value ∙ counts_back c.args.m.now (λ e. true≢false (sym (c.is_top.ensures.1 e) ∙ c.if-is_top.false)) in
    c.set_counts.ensures ∙ ap (λ (m : Measure). record { width = c.args.self.now.width; values = slice_set c.args.self.now.values c.args.v m }) back
