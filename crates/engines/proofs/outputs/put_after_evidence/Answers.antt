use Rattle.requests.specs.Writers.{ReportText, lent_for}
use Rattle.engines.specs.Prepared.{IsTextFound}
use Rattle.engines.proofs.Orders.{one_text}
use Rattle.engines.proofs.Putting.{shown_in, shown_stopped, shown_written, unshown_written}
use Rattle.engines.proofs.outputs.put_after_evidence.Goals as goal

pub returns-in_err-put_witness-in-Some : goal.returns-in_err-put_witness-in-Some
returns-in_err-put_witness-in-Some g c = λ x at made told.
    shown_stopped x c.args.prepared.now c.in-Some.shown _ _ _ _ c.in-Some.is made.form c.from_residual.ensures.0
    (c.in_err-put_witness-in-Some.ensures x at (shown_in x c.args.prepared.now c.in-Some.shown c.in-Some.is made.shown))

pub returns-in_ok-put_witness-in-Some : goal.returns-in_ok-put_witness-in-Some
returns-in_ok-put_witness-in-Some g c = λ x at made told.
    shown_written x c.args.prepared.now c.in-Some.shown _ _ _ _ c.put.result c.in-Some.is made.form
    (c.in_ok-put_witness-in-Some.ensures x at (shown_in x c.args.prepared.now c.in-Some.shown c.in-Some.is made.shown))
    (one_text (IsTextFound x) (lent_for (ReportText c.args.prepared.now.wanted.report) _ _) c.put.result c.args.report.now told c.put.ensures.wrote)

pub returns-in-None : goal.returns-in-None
returns-in-None g c = λ x at made told.
    unshown_written x c.args.prepared.now _ _ _ c.put-in-None.result c.in-None.is made.form
    (one_text (IsTextFound x) (lent_for (ReportText c.args.prepared.now.wanted.report) _ _) c.put-in-None.result c.args.report.now told c.put-in-None.ensures.wrote)
