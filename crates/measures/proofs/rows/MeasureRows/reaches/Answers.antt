use Rattle.measures.proofs.Common.{ap, refl, sym, ◌∙◌, value_at, Rows}
use Rattle.measures.proofs.Reaching.{counts_are, reaches_is}
use Rattle.measures.proofs.rows.MeasureRows.reaches.Goals as goal

pub returns : goal.returns
returns c = λ g wide.
    let next = value_at c.args.self.now.values c.args.next in
    let own = value_at c.args.self.now.values c.args.v in
    let width = ap (λ (r : Rows). r.width) c.self.view_is in
    reaches_is g c.args.priority c.saturating_sub-kept.result c.self.inside.width c.counts.result.now c.counts-2.result.now next own
    (counts_are next c.is_top-2.result c.counts.result.now c.is_top-2.ensures c.if-is_top-2.false c.counts.ensures.value)
    (counts_are own c.is_top.result c.counts-2.result.now c.is_top.ensures c.if-is_top.false c.counts-2.ensures.value)
    c.saturating_sub-kept.ensures (wide ∙ sym width) c.counts_reach.result _ _ refl refl c.counts_reach.ensures
