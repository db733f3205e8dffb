use Rattle.std.proofs.Common.{codes}
use Rattle.text.proofs.Writing.{Wrote-err, Wrote-after, WroteFront-more, WroteFront-after}
use Rattle.requests.proofs.report.write_formula_line.Goals as goal

pub returns-in_err-put : goal.returns-in_err-put
returns-in_err-put g c = Wrote-err _ _ _ _ c.from_residual.ensures.0 (WroteFront-more _ _ (codes "formula ") _ c.in_err-put.ensures.wrote)

pub returns-in_err-print : goal.returns-in_err-print
returns-in_err-print g c = Wrote-err _ _ _ _ c.from_residual-in_err-print.ensures.0
    (WroteFront-after _ _ _ (codes "formula ") _ c.in_ok-put.ensures.wrote (WroteFront-more _ _ _ _ c.in_err-print.ensures.wrote))

pub returns : goal.returns
returns g c = Wrote-after _ _ _ (codes "formula ") _ _ c.in_ok-put.ensures.wrote (Wrote-after _ _ _ _ _ _ c.in_ok-print.ensures.wrote c.put-2.ensures.wrote)
