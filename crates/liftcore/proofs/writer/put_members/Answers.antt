use Rattle.std.proofs.Common.{◌<◌, ◌∙◌, ◌++◌, List, ℕ, ap, decimal, length, subst, sym, true≢false}
use Rattle.std.proofs.lemmas.Bool.{false_from_ne_true}
use Rattle.text.specs.Taken.{Adds}
use Rattle.text.proofs.Writing.{HasWritten, HasWritten-more, HasWritten-stops, Wrote-as, Wrote-err}
use Rattle.text.specs.Wrote.{WroteFront}
use Rattle.liftcore.specs.Replay.{listed}
use Rattle.liftcore.proofs.Written.{all_marked, next_marked, next_unmarked}
use Rattle.liftcore.proofs.writer.put_members.Goals as goal
use Rattle.liftcore.proofs.writer.put_members.Goals.{then-has+in_ok-put_number, else-has}

pub returns-in_err-put_number : goal.returns-in_err-put_number
returns-in_err-put_number g c =
    let marks = c.args.marks.now in
    let inside : c.loop-v.v < length marks = subst (λ (n : ℕ). c.loop-v.v < n) c.requires c.loop-v-test.true in
    let next = next_marked marks c.loop-v.v c.loop-v.first inside (c.has.ensures.0 c.if-has.true) in
    let stopped = subst (λ (p : List ℕ). WroteFront (g.W.Sink.taken c.loop-v.writer) (g.W.Sink.taken c.put_number.new.writer)
    (p ++ decimal c.loop-v.v)) c.separator.ensures c.in_err-put_number.ensures.wrote in
    Wrote-as _ _ _ _ _ (ap listed (all_marked marks)) (Wrote-err _ _ _ _ c.from_residual.ensures.0
    (HasWritten-stops _ _ _ _ _ _ (subst (HasWritten _ _ _) next c.loop-v.invariant) stopped))

pub loop-v-preserved : goal.loop-v-preserved
loop-v-preserved g c =
    let marks = c.args.marks.now in
    let inside : c.loop-v.v < length marks = subst (λ (n : ℕ). c.loop-v.v < n) c.requires c.loop-v-test.true in
    elim c.if-has.branch [
      | then-has+in_ok-put_number w ↦ (
          let next = next_marked marks c.loop-v.v c.loop-v.first inside (c.has.ensures.0 w.if-has.true) in
          let wrote = subst (λ (p : List ℕ). Adds (g.W.Sink.taken c.loop-v.writer) (g.W.Sink.taken w.put_number.new.writer)
          (p ++ decimal c.loop-v.v)) w.separator.ensures w.in_ok-put_number.ensures.wrote in
          rw (w.writer-is, w.first-is) (HasWritten-more _ _ _ _ _ _ (subst (HasWritten _ _ _) next c.loop-v.invariant) wrote))
      | else-has w ↦ (
          let next = next_unmarked marks c.loop-v.v c.loop-v.first inside (false_from_ne_true _ (λ e. true≢false (sym (c.has.ensures.1 e) ∙ w.if-has.false))) in
          rw (w.writer-is, w.first-is) (subst (HasWritten _ _ _) next c.loop-v.invariant))
    ]
