use Rattle.text.proofs.Writing.{Wrote-err, WroteFront-more, WroteFront-after, Wrote-after}
use Rattle.calculus.proofs.printer.+action_text.Goals as goal

pub put_signed_action-returns-in_err-put : goal.put_signed_action-returns-in_err-put
put_signed_action-returns-in_err-put g t c = Wrote-err _ _ _ _ c.from_residual.ensures.0 (WroteFront-more _ _ _ _ c.in_err-put.ensures.wrote)

pub put_signed_action-returns : goal.put_signed_action-returns
put_signed_action-returns g t c = Wrote-after _ _ _ _ _ _ c.in_ok-put.ensures.wrote c.put_action.ensures

pub put_action_pair-returns-in_err-put_signed_action : goal.put_action_pair-returns-in_err-put_signed_action
put_action_pair-returns-in_err-put_signed_action g t c = Wrote-err _ _ _ _ c.from_residual.ensures.0
    (WroteFront-more _ _ _ _ c.in_err-put_signed_action.ensures)

pub put_action_pair-returns-in_err-put_signed_action-2 : goal.put_action_pair-returns-in_err-put_signed_action-2
put_action_pair-returns-in_err-put_signed_action-2 g t c = Wrote-err _ _ _ _ c.from_residual-in_err-put_signed_action-2.ensures.0
    (WroteFront-after _ _ _ _ _ c.in_ok-put_signed_action.ensures (WroteFront-more _ _ _ _ c.in_err-put_signed_action-2.ensures))

pub put_action_pair-returns : goal.put_action_pair-returns
put_action_pair-returns g t c = Wrote-after _ _ _ _ _ _ c.in_ok-put_signed_action.ensures
    (Wrote-after _ _ _ _ _ _ c.in_ok-put_signed_action-2.ensures c.put.ensures.wrote)
