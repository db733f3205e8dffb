use Rattle.engines.proofs.Orders.{refused_on}
use Rattle.std.proofs.Common.{Some}
use Rattle.requests.specs.Check.{ByGame}
use Rattle.engines.proofs.Reasoning.{strictly_refused, strictly_told}
use Rattle.requests.proofs.Caused.{past_reading}
use Rattle.engines.proofs.reasons.tell_why.Goals as goal

pub returns-clause-tells : goal.returns-clause-tells
returns-clause-tells g c = λ first second known also.
    let request = c.args.request.now in
    strictly_told request.strict request.options.priorities (Some request.options.board) request.limit first second _ _ c.tell_read.result
    (c.tell_read.ensures.tells first second (c.in_ok-texts.ensures.spelled first second known also)) (c.in_ok-texts.ensures.known first second known also)

pub returns-in_err-texts-clause-tells : goal.returns-in_err-texts-clause-tells
returns-in_err-texts-clause-tells g c = λ first second known also.
    let request = c.args.request.now in
    let options = request.options in
    refused_on c.from_residual.result c.in_err-texts.field-0.0 _ _ c.from_residual.ensures.1
    (strictly_refused request.strict options.priorities (Some options.board) request.limit first second _ c.in_err-texts.field-0.0
    (c.in_err-texts.ensures.refusal first second known also (ByGame options.priorities (Some options.board))))

pub returns-clause-cause : goal.returns-clause-cause
returns-clause-cause g c = past_reading _ _ c.tell_read.result c.tell_read.ensures.cause
