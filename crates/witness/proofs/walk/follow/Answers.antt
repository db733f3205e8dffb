use Rattle.std.proofs.Common.{◌<◌, length, subst, sym, ap, arith}
use Rattle.std.specs.List.{AllByRecursion}
use Rattle.std.proofs.lemmas.Result.{on_ok_weaker}
use Rattle.measures.proofs.Lists.{all_got}
use Rattle.game.specs.Game.{Game, IsVertex}
use Rattle.witness.specs.Walk.{AreGoals}
use Rattle.witness.proofs.Walking.{all_goals, move_goals, read_vertex, some_vertex}
use Rattle.witness.proofs.walk.follow.Goals as goal

pub visit-requires : goal.visit-requires
visit-requires c =
    let within = (c.known-2.ensures.entries c.args.u _ c.in-Some.ensures).move c.in-Some-next.next c.in-Some-next.is in
    omega (arith, within, ap (λ (g : Game). length g.vertices) c.requires.same, c.requires.long)

pub visit_all-requires : goal.visit_all-requires
visit_all-requires c =
    let v = read_vertex c.args.game.now c.args.u c.successors.result.now c.successors.ensures in
    let is = all_got (IsVertex (length c.args.game.now.vertices)) c.args.game.now.vertices c.args.u v.0 c.known.ensures.vertices v.1 in
    subst (λ n. AllByRecursion (λ t. t < n) c.successors.result.now) (sym c.requires.long)
    (subst (AllByRecursion (λ t. t < length c.args.game.now.vertices)) v.2 is.within)

pub returns-in-Some-next : goal.returns-in-Some-next
returns-in-Some-next c =
    let v = some_vertex c.args.game.now c.args.u c.requires.vertex in
    let goals = move_goals c.args.game.now c.args.evidence.now.evidence c.requires.good c.args.u _ v.0 c.in-Some.ensures v.1 c.in-Some-next.next
    c.in-Some-next.is in
    on_ok_weaker c.visit.result (λ visits. (_, goals, visits)) c.visit.ensures

pub returns-in-None-next : goal.returns-in-None-next
returns-in-None-next c =
    let v = read_vertex c.args.game.now c.args.u c.successors.result.now c.successors.ensures in
    let goals = all_goals c.args.game.now c.args.evidence.now.evidence c.requires.good c.args.u _ v.0 c.in-Some.ensures v.1 c.in-None-next.is in
    let here = subst (AreGoals c.args.game.now c.args.evidence.now.evidence c.args.u) v.2 goals in
    on_ok_weaker c.visit_all.result (λ visits. (c.successors.result.now, here, visits)) c.visit_all.ensures
