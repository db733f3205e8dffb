use Rattle.std.proofs.Common.{map, subst}
use Rattle.std.proofs.lemmas.Grind.{common_steps}
use Rattle.std.proofs.Common.{arith}
use Rattle.witness.proofs.Reaching.{more_targets, step_targets}
use Rattle.witness.proofs.Walking.{visits_more}
use Rattle.witness.specs.Walk.{Visits}
use Rattle.witness.proofs.walk.follow_steps.Goals as goal

pub loop-step-preserved : goal.loop-step-preserved
loop-step-preserved c =
    subst (λ ts. Visits c.args.marks.now.items c.args.waiting.now.items ts c.visit.new.marks.items c.visit.new.waiting.items)
    (more_targets c.from-step-items.result.now c.loop-step.step-index _ c.loop-step-test.true)
    (visits_more _ _ _ _ _ _ _ _ c.loop-step.invariant c.in_ok-visit.ensures)

pub returns : goal.returns
returns c =
    let row = c.from-step-items.result.now in
    (map (λ t. t.target) row, step_targets c.args.system.now c.args.state row c.from-step-items.ensures.arrows, grind (arith, common_steps))
