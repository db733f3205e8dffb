use Rattle.std.proofs.Common.{◌≡◌, Bool, ap, sym, subst, ◌∙◌, filter, arith}
use Rattle.std.proofs.lemmas.List.Elements.{All-from_recursion}
use Rattle.systems.specs.Numbered.{IsInside, IsTransitionOf, arrow_of}
use Rattle.systems.specs.declared.system.Transition.{Transition}
use Rattle.calculus.specs.Normal.{normal_nodes}
use Rattle.game.specs.Game.{Game}
use Rattle.witness.specs.Taken.{is_taken_by_some}
use Rattle.witness.specs.Walk.{is_marked}
use Rattle.witness.proofs.Keeping.{kept_all, kept_inside, kept_none, kept_one, kept_system}
use Rattle.witness.proofs.part.taken.Goals as goal
use Rattle.witness.proofs.part.taken.Goals.{then-is_kept+in_ok-push, else-is_kept}

pub is_kept-requires-clause-within : goal.is_kept-requires-clause-within
is_kept-requires-clause-within c =
    let is = All-from_recursion
    (IsTransitionOf c.args.system.now) c.all-transition-items.result.now c.all-transition-items.ensures.inside c.loop-transition.transition-index _
    c.loop-transition-test.true in
    record { states = c.args.system.now.system.states; named = ap (λ (g : Game). g.named) c.requires.game; source = is.source; target = is.target }

pub loop-transition-preserved : goal.loop-transition-preserved
loop-transition-preserved c =
    let labels = c.args.system.now.labels in
    let ts = c.all-transition-items.result.now in
    let i = c.loop-transition.transition-index in
    let p : Transition → Bool = λ t. is_taken_by_some (normal_nodes c.args.normal.now) c.args.evidence.now.evidence (is_marked c.args.marks.now)
    (arrow_of labels t) in
    let is = All-from_recursion (IsTransitionOf c.args.system.now) ts c.all-transition-items.ensures.inside i _ c.loop-transition-test.true in
    let told = c.is_kept.ensures labels c.requires.sets is.label in
    elim c.if-is_kept.branch [
      | then-is_kept+in_ok-push w ↦ kept_one p ts c.loop-transition.part.items c.if-is_kept.part.items i _ c.loop-transition-test.true
          c.loop-transition.invariant (sym told ∙ w.if-is_kept.true)
          (ap (λ v. v.items) w.part-is ∙ w.in_ok-push.ensures.items)
      | else-is_kept w ↦ kept_none p ts c.loop-transition.part.items c.if-is_kept.part.items i _ c.loop-transition-test.true c.loop-transition.invariant
          (sym told ∙ w.if-is_kept.false) (ap (λ v. v.items) w.part-is)
    ]

pub returns-clause-inside : goal.returns-clause-inside
returns-clause-inside c =
    let ts = c.all-transition-items.result.now in
    let p : Transition → Bool = λ t. is_taken_by_some (normal_nodes c.args.normal.now) c.args.evidence.now.evidence (is_marked c.args.marks.now)
    (arrow_of c.args.system.now.labels t) in
    let all : c.loop-transition.part.items ≡ filter p ts = kept_all p ts c.loop-transition.part.items c.loop-transition.transition-index
    (omega arith) c.loop-transition.invariant in
    subst (IsInside c.args.system.now) (sym all) (kept_inside (IsTransitionOf c.args.system.now) p ts c.all-transition-items.ensures.inside)

pub returns-clause-taken : goal.returns-clause-taken
returns-clause-taken c =
    let ts = c.all-transition-items.result.now in
    let p : Transition → Bool = λ t. is_taken_by_some (normal_nodes c.args.normal.now) c.args.evidence.now.evidence (is_marked c.args.marks.now)
    (arrow_of c.args.system.now.labels t) in
    let all : c.loop-transition.part.items ≡ filter p ts = kept_all p ts c.loop-transition.part.items c.loop-transition.transition-index
    (omega arith) c.loop-transition.invariant in
    kept_system c.args.system.now (is_taken_by_some (normal_nodes c.args.normal.now) c.args.evidence.now.evidence
    (is_marked c.args.marks.now)) ts c.loop-transition.part.items c.all-transition-items.ensures.arrows all
