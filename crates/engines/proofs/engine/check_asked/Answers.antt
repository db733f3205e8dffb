use Rattle.engines.proofs.Orders.{refused_on}
use Rattle.requests.specs.Command.{wanted_in, way_of}
use Rattle.requests.specs.Writers.{all_writers}
use Rattle.engines.proofs.Checks.{kept_writers, strictly_answered}
use Rattle.requests.proofs.Caused.{past_reading}
use Rattle.engines.proofs.engine.check_asked.Goals as goal

pub returns-clause-checks : goal.returns-clause-checks
returns-clause-checks g c = λ first second known also.
    strictly_answered c.args.request.now.strict (way_of c.args.request.now) first second _ c.check_read.result
    (c.check_read.ensures.answers first second (c.in_ok-texts.ensures.spelled first second known also)) (c.in_ok-texts.ensures.known first second known also)

pub returns-in_err-texts-clause-checks : goal.returns-in_err-texts-clause-checks
returns-in_err-texts-clause-checks g c = λ first second known also.
    let wanted = wanted_in c.args.request.now c.args.wanted in
    let game = g.G.Sink.taken c.args.writers.now.game in
    let even = g.E.Sink.taken c.args.writers.now.even in
    let odd = g.O.Sink.taken c.args.writers.now.odd in
    let witness = g.V.Sink.taken c.args.writers.now.witness in
    let out = g.W.Sink.taken c.args.writers.now.report in
    refused_on c.from_residual.result c.in_err-texts.field-0.0 _ _ c.from_residual.ensures.1
    (c.in_err-texts.ensures.refusal first second known also (way_of c.args.request.now)
    (all_writers wanted game game even even odd odd witness witness out out) (kept_writers wanted game even odd witness out))

pub returns-clause-cause : goal.returns-clause-cause
returns-clause-cause g c = past_reading _ _ c.check_read.result c.check_read.ensures.cause
