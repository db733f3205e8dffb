use Rattle.text.proofs.Writing.{Wrote-err, WroteFront-more, WroteFront-after, Wrote-after}
use Rattle.calculus.proofs.printer.+regular_text.Goals as goal

pub put_repeated-returns-in_err-put_regular : goal.put_repeated-returns-in_err-put_regular
put_repeated-returns-in_err-put_regular g t c = Wrote-err _ _ _ _ c.from_residual.ensures.0 (WroteFront-more _ _ _ _ c.in_err-put_regular.ensures)

pub put_repeated-returns : goal.put_repeated-returns
put_repeated-returns g t c = Wrote-after _ _ _ _ _ _ c.in_ok-put_regular.ensures c.put.ensures.wrote

pub put_signed_regular-returns-in_err-put : goal.put_signed_regular-returns-in_err-put
put_signed_regular-returns-in_err-put g t c = Wrote-err _ _ _ _ c.from_residual.ensures.0 (WroteFront-more _ _ _ _ c.in_err-put.ensures.wrote)

pub put_signed_regular-returns : goal.put_signed_regular-returns
put_signed_regular-returns g t c = Wrote-after _ _ _ _ _ _ c.in_ok-put.ensures.wrote c.put_regular.ensures

pub put_regular_pair-returns-in_err-put_signed_regular : goal.put_regular_pair-returns-in_err-put_signed_regular
put_regular_pair-returns-in_err-put_signed_regular g t c = Wrote-err _ _ _ _ c.from_residual.ensures.0
    (WroteFront-more _ _ _ _ c.in_err-put_signed_regular.ensures)

pub put_regular_pair-returns-in_err-put_signed_regular-2 : goal.put_regular_pair-returns-in_err-put_signed_regular-2
put_regular_pair-returns-in_err-put_signed_regular-2 g t c = Wrote-err _ _ _ _ c.from_residual-in_err-put_signed_regular-2.ensures.0
    (WroteFront-after _ _ _ _ _ c.in_ok-put_signed_regular.ensures (WroteFront-more _ _ _ _ c.in_err-put_signed_regular-2.ensures))

pub put_regular_pair-returns : goal.put_regular_pair-returns
put_regular_pair-returns g t c = Wrote-after _ _ _ _ _ _ c.in_ok-put_signed_regular.ensures
    (Wrote-after _ _ _ _ _ _ c.in_ok-put_signed_regular-2.ensures c.put.ensures.wrote)
