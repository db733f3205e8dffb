use Rattle.std.proofs.Common.{◌∙◌, Bool, List, ap, subst, sym}
use Rattle.calculus.specs.Closed.{closed_formula}
use Rattle.requests.specs.Check.{ByGame, RefusesCheck}
use Rattle.requests.specs.Report.{report_in}
use Rattle.requests.specs.Writers.{all_writers}
use Rattle.requests.specs.declared.texts.Texts.{Texts}
use Rattle.text.proofs.PassedOn.{passed_on}
use Rattle.verdicts.proofs.Beyond.{memory_caused}
use Rattle.engines.proofs.Caused.{written_caused}
use Rattle.engines.proofs.Checks.{answer_of, answered_at, kept_writers}
use Rattle.engines.proofs.Orders.{refused_on}
use Rattle.engines.proofs.outputs.answer_prepared.Goals as goal

pub returns-clause-answers : goal.returns-clause-answers
returns-clause-answers g c = λ x first second at same made marks spelled.
    let form = c.args.prepared.now.wanted.report in
    let told = c.deref.ensures.value ∙ (c.in_ok-report.ensures.text
    ∙ (ap (λ (t : Texts). report_in form t.system.system (closed_formula t.formula) c.args.marks.now) (sym at)
    ∙ ap (λ (ms : List Bool). report_in form x.texts.system.system (closed_formula x.texts.formula) ms) (sym same))) in
    answer_of (ByGame x.rule x.board) first second _ x.texts.system.system (closed_formula x.texts.formula) x.marks c.put_wanted-wrote.result
    c.answer_marked.result spelled marks (c.put_wanted-wrote.ensures x at made told)
    (answered_at c.args.marks.now x.marks c.args.texts.now x.texts c.put_wanted-wrote.result c.answer_marked.result (sym same) (sym at) c.answer_marked.ensures)

pub returns-in_err-report-clause-answers : goal.returns-in_err-report-clause-answers
returns-in_err-report-clause-answers g c = λ x first second at same made marks spelled.
    let game = g.G.Sink.taken c.args.game.now in
    let even = g.E.Sink.taken c.args.even.now in
    let odd = g.O.Sink.taken c.args.odd.now in
    let witness = g.V.Sink.taken c.args.witness.now in
    let out = g.W.Sink.taken c.args.out.now in
    let wanted = c.args.prepared.now.wanted in
    let writers = all_writers wanted game game even even odd odd witness witness out out in
    refused_on c.from_residual.result c.in_err-report.field-0.0 _ _ c.from_residual.ensures.1
    (subst (RefusesCheck (ByGame x.rule x.board) first second writers) (sym c.in_err-report.ensures.refusal)
    ((x.texts.system.system, spelled.system.spelled), kept_writers wanted game even odd witness out))

pub returns-clause-cause : goal.returns-clause-cause
returns-clause-cause g c = written_caused c.put_wanted-wrote.result c.answer_marked.result _ _ _ c.answer_marked.ensures

pub returns-in_err-report-clause-cause : goal.returns-in_err-report-clause-cause
returns-in_err-report-clause-cause g c = passed_on c.from_residual.result c.in_err-report.field-0.0 _ c.from_residual.ensures.1
    (memory_caused _ _ c.in_err-report.field-0.0 c.in_err-report.ensures.refusal)
