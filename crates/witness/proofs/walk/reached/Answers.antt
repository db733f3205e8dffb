use Rattle.std.proofs.Common.{◌≡◌, [], ◌∷◌, length, subst, arith}
use Rattle.evidence.specs.Witness.{Goes}
use Rattle.witness.specs.Walk.{Visits}
use Rattle.witness.proofs.Setting.{marked_within}
use Rattle.witness.proofs.Walking.{no_more, walk_begins, walk_ends, walk_on, walk_rest}
use Rattle.witness.proofs.walk.reached.Goals as goal

pub loop-u-init : goal.loop-u-init
loop-u-init c =
    let root = c.args.root ∷ [] in
    walk_begins (length c.args.game.now.vertices) (Goes c.args.game.now c.args.evidence.now.evidence) c.args.root c.vertices.result _ _ c.vertices.ensures
    (subst (λ ms. Visits ms [] root c.visit.new.marks.items c.visit.new.waiting.items) (c.in_ok-marks.ensures.items_if_clones_equal (λ y e. e))
    (subst (λ ws. Visits c.in_ok-marks.marks.items ws root c.visit.new.marks.items c.visit.new.waiting.items) c.new-waiting.ensures.items
    c.in_ok-visit.ensures))

pub follow-requires-clause-vertex : goal.follow-requires-clause-vertex
follow-requires-clause-vertex c =
    let now = c.loop-u.invariant in
    let within = marked_within c.loop-u.marks.items c.in-Some.u (now.known c.in-Some.u (walk_rest _ _ _ c.in-Some.ensures.items)) in
    omega (arith, within, now.long)

pub loop-u-preserved : goal.loop-u-preserved
loop-u-preserved c =
    let turn = c.in_ok-follow.ensures in
    walk_on (length c.args.game.now.vertices) (Goes c.args.game.now c.args.evidence.now.evidence) c.args.root c.in-Some.u _ _ _ _ _ turn.0 c.in-Some.ensures.items c.loop-u.invariant turn.1 turn.2

pub returns : goal.returns
returns c =
    let none : length c.loop-u.waiting.items ≡ 0 = omega (arith, (no_more c.pop.result _ _ c.pop.ensures.cases (λ x e. c.in_default.not-Some x e)).0) in
    walk_ends (length c.args.game.now.vertices) (Goes c.args.game.now c.args.evidence.now.evidence) c.args.root _ _ none c.loop-u.invariant
