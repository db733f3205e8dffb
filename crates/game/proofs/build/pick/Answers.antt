use Rattle.game.proofs.Common.{◌∙◌, arith, sym, ℕ, Transition, place, is_in}
use Rattle.game.proofs.Steps.{picked, place_low, seen, target_low, unlabelled}
use Rattle.game.proofs.build.pick.Goals as goal
use Rattle.game.proofs.build.pick.Goals.{then-has+then-least-transition+in_ok-push, else-has, else-has-via-then-has+else-least-transition}
use Rattle.game.proofs.build.pick.Goals.{else-has-via-else-has}

abbrev nowhere : Transition
nowhere = record { source = 0; label = 0; target = 0 }

pub overflow_mul-transition : goal.overflow_mul-transition
overflow_mul-transition c = omega (
  arith,
  place_low c.args.row.now c.loop-transition.transition-index c.args.nodes c.args.child nowhere c.requires.inside c.loop-transition-test.true
      c.requires.nodes c.requires.child,
)

pub overflow_add-transition : goal.overflow_add-transition
overflow_add-transition c = omega (
  arith,
  place_low c.args.row.now c.loop-transition.transition-index c.args.nodes c.args.child nowhere c.requires.inside c.loop-transition-test.true
      c.requires.nodes c.requires.child,
)

pub overflow_add-transition-then-least-transition : goal.overflow_add-transition-then-least-transition
overflow_add-transition-then-least-transition c = omega (
  arith,
  place_low c.args.row.now c.loop-transition.transition-index c.args.nodes c.args.child nowhere c.requires.inside c.loop-transition-test.true
      c.requires.nodes c.requires.child,
)

pub overflow_add-least : goal.overflow_add-least
overflow_add-least c = omega (arith, target_low c.args.row.now c.loop-transition.transition-index nowhere c.requires.inside c.loop-transition-test.true)

pub loop-transition-preserved : goal.loop-transition-preserved
loop-transition-preserved c =
    let p = is_in c.args.set.now in
    let f = λ (t : ℕ). place c.args.nodes t c.args.child in
    let row = c.args.row.now in
    let i = c.loop-transition.transition-index in
    let old = c.loop-transition in
    elim c.if-has.branch [
      | then-has+then-least-transition+in_ok-push w ↦ rw (w.reached-is, w.in_ok-push.ensures.items, w.least-is)
          (picked p f old.least row i nowhere old.reached.items _ c.loop-transition-test.true old.invariant
          (sym c.has.ensures ∙ w.if-has.true) w.if-least-transition.true)
      | else-has w ↦ rw (w.reached-is, w.least-is) (elim w.else-has.branch [
        | else-has-via-then-has+else-least-transition w' ↦ seen p f old.least row i nowhere old.reached.items _ c.loop-transition-test.true old.invariant
            w'.if-least-transition.false
        | else-has-via-else-has w' ↦ unlabelled p f old.least row i nowhere old.reached.items _ c.loop-transition-test.true old.invariant
            (sym c.has.ensures ∙ w'.if-has.false)
      ])
    ]
