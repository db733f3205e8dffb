use Rattle.std.proofs.Common.{subst, sym}
use Rattle.std.proofs.lemmas.List.{take_more}
use Rattle.witness.specs.Walk.{Visits}
use Rattle.witness.proofs.Walking.{visits_more}
use Rattle.witness.proofs.walk.visit_all.Goals as goal

pub loop-t-preserved : goal.loop-t-preserved
loop-t-preserved c =
    subst (λ ts. Visits c.args.marks.now.items c.args.waiting.now.items ts c.visit.new.marks.items c.visit.new.waiting.items)
    (sym (take_more c.args.targets.now c.loop-t.t-index 0 c.loop-t-test.true))
    (visits_more _ _ _ _ _ _ _ _ c.loop-t.invariant c.in_ok-visit.ensures)
