use Rattle.std.proofs.Common.{length, subst}
use Rattle.measures.proofs.Lists.{all_got}
use Rattle.game.specs.Game.{Game, IsVertex}
use Rattle.evidence.specs.Evidence.{IsEvidence}
use Rattle.witness.proofs.Walking.{move_goals, some_vertex}
use Rattle.why.proofs.Walking.{has_within}
use Rattle.why.proofs.Ways.{one_goal, ways_of_all}
use Rattle.why.proofs.walk.ways_from.Goals as goal

pub returns-in-Some-next : goal.returns-in-Some-next
returns-in-Some-next c =
    let g = c.args.game.now in
    let e = c.args.evidence.now.evidence in
    let v = some_vertex g c.args.u (has_within g e c.args.u (subst (λ (h : Game). IsEvidence h e) c.requires.same c.known-2.ensures) c.requires.has) in
    one_goal g e c.args.u c.in-Some-next.next (move_goals g e c.requires.good c.args.u _ v.0 c.in-Some.ensures v.1 c.in-Some-next.next c.in-Some-next.is)

pub returns-in-None-next : goal.returns-in-None-next
returns-in-None-next c =
    let g = c.args.game.now in
    let e = c.args.evidence.now.evidence in
    let v = some_vertex g c.args.u (has_within g e c.args.u (subst (λ (h : Game). IsEvidence h e) c.requires.same c.known-2.ensures) c.requires.has) in
    let is = all_got (IsVertex (length g.vertices)) g.vertices c.args.u v.0 c.known.ensures.vertices v.1 in
    ways_of_all g e c.requires.good c.args.u _ v.0 c.all_ways.result c.in-Some.ensures v.1 c.in-None-next.is is (c.all_ways.ensures v.0 v.1)
