use Rattle.std.proofs.Common.{codes, decimal}
use Rattle.text.proofs.Writing.{Wrote-after, Wrote-err, WroteFront-after, WroteFront-more}
use Rattle.measures.specs.MeasureText.{measure_text}
use Rattle.liftcore.proofs.writer.put_value.Goals as goal

pub returns-in_err-put_number : goal.returns-in_err-put_number
returns-in_err-put_number g c = Wrote-err _ _ _ _ c.from_residual.ensures.0 (WroteFront-more _ _ (decimal c.args.v) _ c.in_err-put_number.ensures.wrote)

pub returns-in_err-put : goal.returns-in_err-put
returns-in_err-put g c =
    Wrote-err _ _ _ _ c.from_residual-in_err-put.ensures.0 (WroteFront-after _ _ _ (decimal c.args.v) _ c.in_ok-put_number.ensures.wrote
    (WroteFront-more _ _ (codes " ") _ c.in_err-put.ensures.wrote))

pub returns-in_err-put_measure : goal.returns-in_err-put_measure
returns-in_err-put_measure g c =
    Wrote-err _ _ _ _ c.from_residual-in_err-put_measure.ensures.0
    (WroteFront-after _ _ _ (decimal c.args.v) _ c.in_ok-put_number.ensures.wrote
    (WroteFront-after _ _ _ (codes " ") _ c.in_ok-put.ensures.wrote (WroteFront-more _ _ (measure_text c.args.m.now) _ c.in_err-put_measure.ensures.wrote)))

pub returns : goal.returns
returns g c =
    Wrote-after _ _ _ (decimal c.args.v) _ _ c.in_ok-put_number.ensures.wrote
    (Wrote-after _ _ _ (codes " ") _ _ c.in_ok-put.ensures.wrote
    (Wrote-after _ _ _ (measure_text c.args.m.now) _ _ c.in_ok-put_measure.ensures.wrote c.put-2.ensures.wrote))
