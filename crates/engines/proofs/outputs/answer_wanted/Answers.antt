use Rattle.text.proofs.PassedOn.{passed_on}
use Rattle.std.proofs.Common.{subst, sym}
use Rattle.requests.specs.Check.{AnswersCheck}
use Rattle.requests.specs.Writers.{all_writers}
use Rattle.requests.specs.declared.request.Wanted.{Wanted}
use Rattle.engines.specs.Prepared.{outcome_of}
use Rattle.verdicts.specs.Findings.{formula_found, system_of, way_in}
use Rattle.engines.proofs.Caused.{unprepared_caused}
use Rattle.engines.proofs.Checks.{unprepared_all}
use Rattle.engines.proofs.Orders.{refused_on}
use Rattle.engines.proofs.outputs.answer_wanted.Goals as goal

pub returns-clause-answers : goal.returns-clause-answers
returns-clause-answers g c = λ first second spelled.
    let x = c.args.found.now in
    let after = c.answer_prepared.new in
    subst (λ (w : Wanted). AnswersCheck (way_in x) first second (all_writers w (g.G.Sink.taken c.args.game.now) (g.G.Sink.taken after.game)
    (g.E.Sink.taken c.args.even.now) (g.E.Sink.taken after.even) (g.O.Sink.taken c.args.odd.now) (g.O.Sink.taken after.odd)
    (g.V.Sink.taken c.args.witness.now) (g.V.Sink.taken after.witness) (g.W.Sink.taken c.args.out.now) (g.W.Sink.taken after.out)) c.answer_prepared.result)
    c.in_ok-prepared.ensures.wanted
    (c.answer_prepared.ensures.answers (outcome_of x) first second (sym c.deref-2.ensures) (sym c.as_slice-marks.ensures.value) c.in_ok-prepared.ensures.prepared
    c.requires.marks spelled)

pub returns-in_err-prepared-clause-answers : goal.returns-in_err-prepared-clause-answers
returns-in_err-prepared-clause-answers g c = λ first second spelled.
    let x = c.args.found.now in
    refused_on c.from_residual.result c.in_err-prepared.field-0.0 _ _ c.from_residual.ensures.1
    (unprepared_all (way_in x) (system_of x) (formula_found x) c.args.wanted first second _ _ _ _ _ c.in_err-prepared.field-0.0 spelled
    c.requires.marks.within c.in_err-prepared.ensures.refusal)

pub returns-in_err-prepared-clause-cause : goal.returns-in_err-prepared-clause-cause
returns-in_err-prepared-clause-cause g c = passed_on c.from_residual.result c.in_err-prepared.field-0.0 _ c.from_residual.ensures.1
    (unprepared_caused c.args.wanted _ _ c.in_err-prepared.field-0.0 c.in_err-prepared.ensures.refusal)
