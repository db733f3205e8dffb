use Rattle.text.proofs.Writing.{Wrote-after, Wrote-err, WroteFront-after, WroteFront-more}
use Rattle.why.proofs.writer.put_told.Goals as goal

pub returns-in_err-put_lines : goal.returns-in_err-put_lines
returns-in_err-put_lines g c = Wrote-err _ _ _ _ c.from_residual.ensures.0 (WroteFront-more _ _ _ _ c.in_err-put_lines.ensures.wrote)

pub returns-in_err-put_lines-2 : goal.returns-in_err-put_lines-2
returns-in_err-put_lines-2 g c = Wrote-err _ _ _ _ c.from_residual-in_err-put_lines-2.ensures.0
    (WroteFront-after _ _ _ _ _ c.in_ok-put_lines.ensures.wrote (WroteFront-more _ _ _ _ c.in_err-put_lines-2.ensures.wrote))

pub returns : goal.returns
returns g c = Wrote-after _ _ _ _ _ _ c.in_ok-put_lines.ensures.wrote (Wrote-after _ _ _ _ _ _ c.in_ok-put_lines-2.ensures.wrote c.put_rest.ensures)
