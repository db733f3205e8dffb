use Rattle.std.proofs.Common.{refl, subst}
use Rattle.calculus.specs.Normal.{normal_nodes}
use Rattle.why.specs.Walk.{HasTold}
use Rattle.why.proofs.Walking.{told_pop}
use Rattle.why.proofs.walk.step.Goals as goal

pub returns-in-None-clause-told : goal.returns-in-None-clause-told
returns-in-None-clause-told c =
    let g = c.args.game.now in
    let e = c.args.evidence.now.evidence in
    told_pop c.args.system.now.system (normal_nodes c.args.form.now) g e c.args.way c.args.walk.now c.tell.new.walk _ c.pop.result c.requires.good refl refl refl c.pop.ensures.items
    (subst (λ o. HasTold c.args.system.now.system (normal_nodes c.args.form.now) g e c.args.way c.args.walk.now c.tell.new.walk o) c.in-None.is c.in_ok-next.ensures)
