use Rattle.std.proofs.Common.{◌≡◌, ◌<◌, ℕ, List, arith, length, refl, subst, sym, true≢false}
use Rattle.std.proofs.lemmas.Bool.{false_from_ne_true}
use Rattle.liftcore.specs.Reading.{AreRead, successors_read}
use Rattle.liftcore.proofs.Seated.{coded, whole_raises, unread_waits}
use Rattle.liftcore.proofs.seat.CoreWorker.is_whole.Goals as goal

pub returns-then-not-is_read : goal.returns-then-not-is_read
returns-then-not-is_read c =
    let same : successors_read c.args.self.now.turn ≡ c.successors-place-end.result.now =
    coded c.args.game.now c.args.self.now c.requires.seat c.vertex.result c.successors-place-end.result.now c.vertex.ensures c.successors-place-end.ensures in (
      λ t. absurd (true≢false (sym t)),
      λ r. absurd (unread_waits c.args.game.now c.args.self.now c.requires.seat c.loop-place.place c.if-not-self.false
          (subst (λ (ts : List ℕ). c.loop-place.place < length ts) (sym same) c.loop-place-test.true)
          (false_from_ne_true _ (λ e. true≢false (sym (c.if-not-is_read.ensures.1 e)))) r),
    )

pub returns : goal.returns
returns c =
    let same : successors_read c.args.self.now.turn ≡ c.successors-place-end.result.now =
    coded c.args.game.now c.args.self.now c.requires.seat c.vertex.result c.successors-place-end.result.now c.vertex.ensures c.successors-place-end.ensures in (
      λ t. whole_raises c.args.game.now c.args.self.now c.requires.seat c.if-not-self.false
          (subst (λ (ts : List ℕ). AreRead c.args.self.now.turn (length ts)) (sym same)
          (λ k l. c.loop-place.invariant k (let e = c.loop-place-test.false in omega (arith, e, l)))),
      λ r. refl,
    )
