use Rattle.measures.proofs.Common.{◌≡◌, ap, components, count, height, lists_up_to, ◌∙◌}
use Rattle.measures.proofs.Numbers.{size_bounds}
use Rattle.measures.proofs.rank.top_rank.Goals as goal

pub returns-clause-few : goal.returns-clause-few
returns-clause-few c =
    let same : lists_up_to (λ b. b) c.as_slice.result.now ≡ height c.args.game.now = ap (lists_up_to (λ b. b)) (c.as_slice.ensures.value ∙ c.bounds.ensures)
    ∙ size_bounds (count c.args.game.now) (components c.args.game.now) in
    rw (← same) c.number_within.ensures.few

pub returns-clause-value : goal.returns-clause-value
returns-clause-value c =
    let same : lists_up_to (λ b. b) c.as_slice.result.now ≡ height c.args.game.now = ap (lists_up_to (λ b. b)) (c.as_slice.ensures.value ∙ c.bounds.ensures)
    ∙ size_bounds (count c.args.game.now) (components c.args.game.now) in
    rw (← same) c.number_within.ensures.value
