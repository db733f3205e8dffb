use Rattle.text.proofs.Writing.{Wrote-err, WroteFront-more, WroteFront-after, Wrote-after}
use Rattle.calculus.proofs.printer.+state_text.Goals as goal

pub put_signed-returns-in_err-put : goal.put_signed-returns-in_err-put
put_signed-returns-in_err-put g t c = Wrote-err _ _ _ _ c.from_residual.ensures.0 (WroteFront-more _ _ _ _ c.in_err-put.ensures.wrote)

pub put_signed-returns : goal.put_signed-returns
put_signed-returns g t c = Wrote-after _ _ _ _ _ _ c.in_ok-put.ensures.wrote c.put_state.ensures

pub put_pair-returns-in_err-put_signed : goal.put_pair-returns-in_err-put_signed
put_pair-returns-in_err-put_signed g t c = Wrote-err _ _ _ _ c.from_residual.ensures.0 (WroteFront-more _ _ _ _ c.in_err-put_signed.ensures)

pub put_pair-returns-in_err-put_signed-2 : goal.put_pair-returns-in_err-put_signed-2
put_pair-returns-in_err-put_signed-2 g t c = Wrote-err _ _ _ _ c.from_residual-in_err-put_signed-2.ensures.0
    (WroteFront-after _ _ _ _ _ c.in_ok-put_signed.ensures (WroteFront-more _ _ _ _ c.in_err-put_signed-2.ensures))

pub put_pair-returns : goal.put_pair-returns
put_pair-returns g t c = Wrote-after _ _ _ _ _ _ c.in_ok-put_signed.ensures (Wrote-after _ _ _ _ _ _ c.in_ok-put_signed-2.ensures c.put.ensures.wrote)

pub put_binder-returns-in_err-put_pieces : goal.put_binder-returns-in_err-put_pieces
put_binder-returns-in_err-put_pieces g t c = Wrote-err _ _ _ _ c.from_residual.ensures.0 (WroteFront-more _ _ _ _ c.in_err-put_pieces.ensures)

pub put_binder-returns-in_err-put_signed : goal.put_binder-returns-in_err-put_signed
put_binder-returns-in_err-put_signed g t c = Wrote-err _ _ _ _ c.from_residual-in_err-put_signed.ensures.0
    (WroteFront-after _ _ _ _ _ c.in_ok-put_pieces.ensures (WroteFront-more _ _ _ _ c.in_err-put_signed.ensures))

pub put_binder-returns : goal.put_binder-returns
put_binder-returns g t c = Wrote-after _ _ _ _ _ _ c.in_ok-put_pieces.ensures (Wrote-after _ _ _ _ _ _ c.in_ok-put_signed.ensures c.put.ensures.wrote)

pub put_modal-returns-in_err-put : goal.put_modal-returns-in_err-put
put_modal-returns-in_err-put g t c = Wrote-err _ _ _ _ c.from_residual.ensures.0 (WroteFront-more _ _ _ _ c.in_err-put.ensures.wrote)

pub put_modal-returns-in_err-put_regular : goal.put_modal-returns-in_err-put_regular
put_modal-returns-in_err-put_regular g t c = Wrote-err _ _ _ _ c.from_residual-in_err-put_regular.ensures.0
    (WroteFront-after _ _ _ _ _ c.in_ok-put.ensures.wrote (WroteFront-more _ _ _ _ c.in_err-put_regular.ensures))

pub put_modal-returns : goal.put_modal-returns
put_modal-returns g t c = Wrote-after _ _ _ _ _ _ c.in_ok-put.ensures.wrote (Wrote-after _ _ _ _ _ _ c.in_ok-put_regular.ensures c.put_signed.ensures)
