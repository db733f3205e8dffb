use Rattle.std.proofs.Common.{subst}
use Rattle.text.proofs.Writing.{HasWritten, HasWritten-more, HasWritten-stops, HasWritten-all, Wrote-err}
use Rattle.measures.proofs.Joined.{more, next_in, none_in}
use Rattle.measures.proofs.writer.put_more.Goals as goal

pub returns-in_err-put_next : goal.returns-in_err-put_next
returns-in_err-put_next g c =
    let next = next_in more c.args.counts.now c.loop-count.count-index 0 c.loop-count-test.true in
    Wrote-err _ _ _ _ c.from_residual.ensures.0 (HasWritten-stops _ _ _ _ _ _
    (subst (HasWritten _ _ _) next c.loop-count.invariant) c.in_err-put_next.ensures.wrote)

pub loop-count-preserved : goal.loop-count-preserved
loop-count-preserved g c =
    let next = next_in more c.args.counts.now c.loop-count.count-index 0 c.loop-count-test.true in
    HasWritten-more _ _ _ _ _ _ (subst (HasWritten _ _ _) next c.loop-count.invariant) c.in_ok-put_next.ensures.wrote

pub returns : goal.returns
returns g c = HasWritten-all _ _ _ (subst (HasWritten _ _ _)
    (none_in more c.args.counts.now c.loop-count.count-index c.loop-count-test.false) c.loop-count.invariant)
