use Rattle.std.proofs.Common.{◌≡◌, [], ◌∷◌, false, length, replicate, subst, arith}
use Rattle.calculus.specs.Meaning.{Leads}
use Rattle.calculus.specs.Tree.{Anything, Step}
use Rattle.witness.specs.Walk.{Visits}
use Rattle.witness.proofs.Setting.{marked_within}
use Rattle.witness.proofs.Walking.{no_more, walk_begins, walk_ends, walk_on, walk_rest}
use Rattle.witness.proofs.walk.reached_states.Goals as goal

pub loop-state-init : goal.loop-state-init
loop-state-init c =
    let l = c.args.system.now.system in
    walk_begins l.states (Leads l (Step Anything)) c.args.from c.states.result _ _ c.states.ensures.count
    (subst (λ ms. Visits ms [] (c.args.from ∷ []) c.visit.new.marks.items c.visit.new.waiting.items)
    (c.in_ok-marks.ensures.items_if_clones_equal (λ y e. e))
    (subst (λ ws. Visits c.in_ok-marks.marks.items ws (c.args.from ∷ []) c.visit.new.marks.items c.visit.new.waiting.items) c.new-waiting.ensures.items
    c.in_ok-visit.ensures))

pub follow_steps-requires-clause-state : goal.follow_steps-requires-clause-state
follow_steps-requires-clause-state c =
    let now = c.loop-state.invariant in
    let within = marked_within c.loop-state.marks.items c.in-Some.state (now.known c.in-Some.state (walk_rest _ _ _ c.in-Some.ensures.items)) in
    omega (arith, within, now.long)

pub loop-state-preserved : goal.loop-state-preserved
loop-state-preserved c =
    let l = c.args.system.now.system in
    let turn = c.in_ok-follow_steps.ensures in
    walk_on l.states (Leads l (Step Anything)) c.args.from c.in-Some.state _ _ _ _ _ turn.0 c.in-Some.ensures.items c.loop-state.invariant turn.1 turn.2

pub returns : goal.returns
returns c =
    let l = c.args.system.now.system in
    let now = c.loop-state.invariant in
    let none : length c.loop-state.waiting.items ≡ 0 = omega (arith, (no_more c.pop.result _ _ c.pop.ensures.cases (λ x e. c.in_default.not-Some x e)).0) in
    record { long = now.long; exact = walk_ends l.states (Leads l (Step Anything)) c.args.from _ _ none now }
