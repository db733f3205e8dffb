use Rattle.std.proofs.Common.{subst}
use Rattle.text.proofs.Writing.{HasWritten, HasWritten-all, HasWritten-more, HasWritten-stops, Wrote-err}
use Rattle.witness.proofs.Drawn.{next_byte, no_bytes}
use Rattle.witness.proofs.drawing.put_label.Goals as goal

pub returns-in_err-put_byte : goal.returns-in_err-put_byte
returns-in_err-put_byte g c =
    let next = next_byte c.args.bytes.now c.loop-byte.byte-index _ c.loop-byte-test.true in
    Wrote-err _ _ _ _ c.from_residual.ensures.0 (HasWritten-stops _ _ _ _ _ _ (subst (HasWritten _ _ _) next c.loop-byte.invariant) c.in_err-put_byte.ensures)

pub loop-byte-preserved : goal.loop-byte-preserved
loop-byte-preserved g c =
    let next = next_byte c.args.bytes.now c.loop-byte.byte-index _ c.loop-byte-test.true in
    HasWritten-more _ _ _ _ _ _ (subst (HasWritten _ _ _) next c.loop-byte.invariant) c.in_ok-put_byte.ensures

pub returns : goal.returns
returns g c = HasWritten-all _ _ _ (subst (HasWritten _ _ _) (no_bytes c.args.bytes.now c.loop-byte.byte-index c.loop-byte-test.false) c.loop-byte.invariant)
