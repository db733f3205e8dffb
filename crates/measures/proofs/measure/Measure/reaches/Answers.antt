use Rattle.measures.proofs.Common.{◌∙◌, arith, ap, sym, take, true≢false, counts_of}
use Rattle.measures.proofs.Bests.{counts_back}
use Rattle.measures.proofs.Reaching.{reaches_is}
use Rattle.measures.proofs.measure.Measure.reaches.Goals as goal

pub returns-then-not-is_top : goal.returns-then-not-is_top
returns-then-not-is_top c = λ g wide.
    let next = c.args.next.now in
    let own = c.args.self.now in
    let k = c.saturating_sub-kept.result in
    reaches_is g c.args.priority k c.args.width (counts_of next) (counts_of own) next own
    (counts_back next (λ e. grind arith))
    (counts_back own (λ e. true≢false (sym (c.is_top.ensures.1 e) ∙ c.if-is_top.false)))
    c.saturating_sub-kept.ensures wide c.counts_reach.result c.first.result.now c.first-then-not-is_top.result.now
    (c.first.ensures ∙ ap (take k) c.counts.ensures.value) (c.first-then-not-is_top.ensures ∙ ap (take k) c.counts-then-not-is_top.ensures.value)
    c.counts_reach.ensures
