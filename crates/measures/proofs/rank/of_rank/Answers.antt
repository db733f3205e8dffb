use Rattle.measures.proofs.Common.{◌≡◌, ap, arith, rules, height, subst, sym, IsMeasure, rank, ◌∙◌}
use Rattle.measures.proofs.Numbers.{measure_of_number, of_rank_measure, of_rank_top, rank_of_rank, size_is}
use Rattle.measures.proofs.rank.of_rank.Goals as goal

pub returns-then-rank-within-clause-value : goal.returns-then-rank-within-clause-value
returns-then-rank-within-clause-value c =
    let within : c.unwrap-within.result ≡ height c.args.game.now = search rules in
    c.top.ensures ∙ sym (of_rank_top c.args.game.now c.args.rank (omega arith))

pub counts_of_number-requires-clause-within : goal.counts_of_number-requires-clause-within
counts_of_number-requires-clause-within c =
    let within : c.unwrap-within.result ≡ height c.args.game.now = search rules in
    within ∙ sym (size_is c.args.game.now c.as_slice.result.now (c.as_slice.ensures.value ∙ c.bounds-bounds.ensures))

pub returns-clause-value : goal.returns-clause-value
returns-clause-value c =
    let within : c.unwrap-within.result ≡ height c.args.game.now = search rules in
    measure_of_number c.args.game.now c.as_slice.result.now (c.as_slice.ensures.value
    ∙ c.bounds-bounds.ensures) c.args.rank c.as_slice-2.result.now c.of_counts.result
    (let n = c.if-rank-within.false in let r = c.requires.rank in omega arith) (c.as_slice-2.ensures.value ∙ c.counts_of_number.ensures) c.of_counts.ensures

pub returns-clause-measure : goal.returns-clause-measure
returns-clause-measure c = subst (IsMeasure c.args.game.now) (sym (returns-clause-value c)) (of_rank_measure c.args.game.now c.args.rank)

pub returns-clause-rank : goal.returns-clause-rank
returns-clause-rank c = ap (rank c.args.game.now) (returns-clause-value c) ∙ rank_of_rank c.args.game.now c.args.rank c.requires.rank
