use Rattle.game.proofs.Common.{◌<◌, ◌+◌, ◌*◌, subst, sym, ap, ◌∙◌, arith, MatchOption, mul-add-lt, Game}
use Rattle.game.proofs.graph.Game.vertex_of.Goals as goal

-- the vertex is one of the game's
fits : (c : goal.In-Some) → 2 + (c.args.state * c.in-Some.nodes + c.args.node) < 16777217
fits c =
    let states = c.in-Some.field-0-0 in
    let nodes = c.in-Some.nodes in
    let named = sym (ap (λ (g : Game). g.named) c.self.view_is) ∙ c.in-Some.is in
    let names : (c.args.state < states) × (c.args.node < nodes) = subst
    (λ n. MatchOption n ⊥ (λ x. (c.args.state < x.0) × (c.args.node < x.1))) named c.requires in
    let below = mul-add-lt c.args.state nodes c.args.node states names.0 names.1 in
    let count = c.self.invariant.game.named states nodes c.in-Some.is in
    omega (arith, below, count, c.self.invariant.game.limit)

pub overflow_mul-result : goal.overflow_mul-result
overflow_mul-result c = omega (arith, fits c)

pub overflow_add-result : goal.overflow_add-result
overflow_add-result c = omega (arith, fits c)

pub overflow_add-result-in-Some : goal.overflow_add-result-in-Some
overflow_add-result-in-Some c = omega (arith, fits c)
