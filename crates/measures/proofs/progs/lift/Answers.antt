use Rattle.measures.proofs.Common.{sym, ◌∙◌, true≢false}
use Rattle.measures.proofs.Bests.{lift_of_demand}
use Rattle.measures.proofs.Measures.{greater_left, greater_taken}
use Rattle.measures.proofs.progs.lift.Goals as goal

pub returns-then-is_below : goal.returns-then-is_below
returns-then-is_below c =
    lift_of_demand c.args.game.now c.args.v c.args.own.now c.demand-risen.result c.demand-risen.result c.args.successors.now c.demand-risen.ensures
    (greater_taken c.args.own.now c.demand-risen.result (c.is_below.ensures.0 c.if-is_below.true))

pub returns-else-is_below : goal.returns-else-is_below
returns-else-is_below c =
    lift_of_demand c.args.game.now c.args.v c.args.own.now c.demand-risen.result c.copied.result c.args.successors.now c.demand-risen.ensures
    (c.copied.ensures ∙ greater_left c.args.own.now c.demand-risen.result (λ b. true≢false (sym (c.is_below.ensures.1 b) ∙ c.if-is_below.false)))
