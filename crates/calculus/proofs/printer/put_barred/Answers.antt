use Rattle.std.proofs.Common.{subst}
use Rattle.text.proofs.Writing.{HasWritten, HasWritten-more, HasWritten-stops, HasWritten-all, Wrote-err}
use Rattle.calculus.proofs.Printing.{next_barred, none_barred}
use Rattle.calculus.proofs.printer.put_barred.Goals as goal

pub returns-in_err-put_pieces : goal.returns-in_err-put_pieces
returns-in_err-put_pieces g c =
    let so_far = subst (HasWritten _ _ _)
    (next_barred c.args.names.now c.loop-name.name-index c.name-item.result _ c.loop-name-test.true c.name-item.is c.deref.ensures.value)
    c.loop-name.invariant in
    Wrote-err _ _ _ _ c.from_residual.ensures.0 (HasWritten-stops _ _ _ _ _ _ so_far c.in_err-put_pieces.ensures)

pub loop-name-preserved : goal.loop-name-preserved
loop-name-preserved g c =
    let so_far = subst (HasWritten _ _ _)
    (next_barred c.args.names.now c.loop-name.name-index c.name-item.result _ c.loop-name-test.true c.name-item.is c.deref.ensures.value)
    c.loop-name.invariant in
    HasWritten-more _ _ _ _ _ _ so_far c.in_ok-put_pieces.ensures

pub returns : goal.returns
returns g c = HasWritten-all _ _ _ (subst (HasWritten _ _ _) (none_barred c.args.names.now c.loop-name.name-index c.loop-name-test.false) c.loop-name.invariant)
