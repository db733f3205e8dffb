use Rattle.std.proofs.Common.{◌<◌, ◌∙◌, ℕ, length, subst, sym}
use Rattle.text.specs.Taken.{Adds}
use Rattle.measures.specs.Measure.{Measure}
use Rattle.text.proofs.Writing.{HasWritten, HasWritten-all, HasWritten-more, HasWritten-stops, Wrote-err}
use Rattle.text.specs.Wrote.{WroteFront}
use Rattle.liftcore.specs.Replay.{value_line}
use Rattle.liftcore.proofs.Written.{next_line, no_lines}
use Rattle.liftcore.proofs.writer.put_values.Goals as goal

pub returns-in_err-put_value : goal.returns-in_err-put_value
returns-in_err-put_value g c =
    let values = c.args.core.now.table.values in
    let inside : c.loop-v.v < length values = subst (λ (n : ℕ). c.loop-v.v < n) (c.vertices-v-end.ensures ∙ sym c.known.ensures.long) c.loop-v-test.true in
    let stopped = subst (λ (m : Measure). WroteFront (g.W.Sink.taken c.loop-v.writer) (g.W.Sink.taken c.put_value.new.writer)
    (value_line c.loop-v.v m)) c.value.ensures.value c.in_err-put_value.ensures in
    Wrote-err _ _ _ _ c.from_residual.ensures.0 (HasWritten-stops _ _ _ _ _ _
    (subst (HasWritten _ _ _) (next_line values c.loop-v.v inside) c.loop-v.invariant) stopped)

pub loop-v-preserved : goal.loop-v-preserved
loop-v-preserved g c =
    let values = c.args.core.now.table.values in
    let inside : c.loop-v.v < length values = subst (λ (n : ℕ). c.loop-v.v < n) (c.vertices-v-end.ensures ∙ sym c.known.ensures.long) c.loop-v-test.true in
    let wrote = subst (λ (m : Measure). Adds (g.W.Sink.taken c.loop-v.writer) (g.W.Sink.taken c.put_value.new.writer)
    (value_line c.loop-v.v m)) c.value.ensures.value c.in_ok-put_value.ensures in
    HasWritten-more _ _ _ _ _ _ (subst (HasWritten _ _ _) (next_line values c.loop-v.v inside) c.loop-v.invariant) wrote

pub returns : goal.returns
returns g c =
    let values = c.args.core.now.table.values in
    HasWritten-all _ _ _ (subst (HasWritten _ _ _) (no_lines values c.loop-v.v
    (rw (c.known.ensures.long, ← c.vertices-v-end.ensures) c.loop-v-test.false)) c.loop-v.invariant)
