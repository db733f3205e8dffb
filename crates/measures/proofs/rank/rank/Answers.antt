use Rattle.measures.proofs.Common.{◌≡◌, ap, arith, height, rules, sym, true≢false, rank, ◌∙◌}
use Rattle.measures.proofs.Numbers.{counts_within, number_is, of_rank_rank, rank_order, rank_tells, size_is}
use Rattle.measures.specs.Lifting.{of_rank}
use Rattle.measures.proofs.rank.rank.Goals as goal

pub returns-then-is_top-clause-value : goal.returns-then-is_top-clause-value
returns-then-is_top-clause-value c =
    let within : c.unwrap.result ≡ height c.args.game.now = search rules in
    within ∙ ap (rank c.args.game.now) (sym (c.is_top.ensures.0 c.if-is_top.true))

pub returns-then-is_top-clause-lesser : goal.returns-then-is_top-clause-lesser
returns-then-is_top-clause-lesser c = rank_tells c.args.game.now c.args.m.now c.unwrap.result c.requires.measure (returns-then-is_top-clause-value c)

pub returns-then-is_top-clause-order : goal.returns-then-is_top-clause-order
returns-then-is_top-clause-order c = λ other is. rank_order c.args.game.now c.args.m.now other c.unwrap.result c.requires.measure
    (returns-then-is_top-clause-value c) is

pub returns-then-is_top-clause-measure : goal.returns-then-is_top-clause-measure
returns-then-is_top-clause-measure c = ap (of_rank c.args.game.now) (returns-then-is_top-clause-value c)
    ∙ of_rank_rank c.args.game.now c.args.m.now c.requires.measure

pub number_of-requires-clause-within : goal.number_of-requires-clause-within
number_of-requires-clause-within c =
    counts_within c.args.game.now c.as_slice.result.now (c.as_slice.ensures.value ∙ c.bounds.ensures) c.args.m.now c.counts.result.now c.requires.measure
    (λ e. true≢false (sym (c.is_top.ensures.1 e) ∙ c.if-is_top.false)) c.counts.ensures.value

pub number_of-requires-clause-few : goal.number_of-requires-clause-few
number_of-requires-clause-few c = let e = size_is c.args.game.now c.as_slice.result.now (c.as_slice.ensures.value ∙ c.bounds.ensures)
    in omega (arith, e, c.requires.few)

pub returns-clause-value : goal.returns-clause-value
returns-clause-value c =
    c.number_of.ensures
    ∙ number_is c.args.game.now c.as_slice.result.now (c.as_slice.ensures.value ∙ c.bounds.ensures) c.args.m.now c.counts.result.now
    (λ e. true≢false (sym (c.is_top.ensures.1 e) ∙ c.if-is_top.false)) c.counts.ensures.value

pub returns-clause-lesser : goal.returns-clause-lesser
returns-clause-lesser c = rank_tells c.args.game.now c.args.m.now c.number_of.result c.requires.measure (returns-clause-value c)

pub returns-clause-order : goal.returns-clause-order
returns-clause-order c = λ other is. rank_order c.args.game.now c.args.m.now other c.number_of.result c.requires.measure (returns-clause-value c) is

pub returns-clause-measure : goal.returns-clause-measure
returns-clause-measure c = ap (of_rank c.args.game.now) (returns-clause-value c) ∙ of_rank_rank c.args.game.now c.args.m.now c.requires.measure
