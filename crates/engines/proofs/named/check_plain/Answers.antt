use Rattle.engines.proofs.Orders.{refused_on}
use Rattle.text.proofs.Writing.{Stays-refl}
use Rattle.requests.specs.Check.{BySets}
use Rattle.requests.specs.declared.request.ReportForm.TheVariants.{Whole}
use Rattle.requests.specs.Writers.{report_writer}
use Rattle.requests.proofs.Caused.{past_reading}
use Rattle.engines.proofs.named.check_plain.Goals as goal

pub returns-clause-checks : goal.returns-clause-checks
returns-clause-checks g c = λ first second known also.
    c.report_plain.ensures.answers first second (c.in_ok-texts.ensures.spelled first second known also)

pub returns-in_err-texts-clause-checks : goal.returns-in_err-texts-clause-checks
returns-in_err-texts-clause-checks g c = λ first second known also.
    let here = g.W.Sink.taken c.args.out.now in
    refused_on c.from_residual.result c.in_err-texts.field-0.0 _ _ c.from_residual.ensures.1
    (c.in_err-texts.ensures.refusal first second known also BySets (report_writer Whole here here) (Stays-refl here, tt))

pub returns-clause-cause : goal.returns-clause-cause
returns-clause-cause g c = past_reading _ _ c.report_plain.result c.report_plain.ensures.cause
