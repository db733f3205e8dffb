use Rattle.text.proofs.PassedOn.{passed_on}
use Rattle.std.proofs.Common.{◌∙◌, Some, subst, sym}
use Rattle.calculus.specs.Closed.{closed_formula}
use Rattle.requests.specs.declared.texts.Texts.{Texts}
use Rattle.requests.specs.Check.{AreSpelled, ByGame}
use Rattle.requests.specs.Writers.{all_writers}
use Rattle.requests.proofs.Caused.{beyond_caused}
use Rattle.verdicts.specs.Findings.{way_in}
use Rattle.verdicts.proofs.Beyond.{beyond_of}
use Rattle.engines.proofs.Checks.{by_way, kept_writers}
use Rattle.engines.proofs.Orders.{refused_on}
use Rattle.engines.proofs.engine.check_solved.Goals as goal

pub returns-clause-answers : goal.returns-clause-answers
returns-clause-answers g c = λ first second spelled.
    by_way (way_in c.in_ok-found.found) _ first second _ c.answer_wanted.result c.in_ok-found.ensures.way
    (c.answer_wanted.ensures.answers first second (subst (λ (t : Texts). AreSpelled first second t.system.system (closed_formula t.formula))
    (sym (c.in_ok-found.ensures.texts ∙ c.in_ok-texts.ensures)) spelled))

pub returns-in_err-found-clause-answers : goal.returns-in_err-found-clause-answers
returns-in_err-found-clause-answers g c = λ first second spelled.
    let options = c.args.options.now in
    let texts = c.in_ok-texts.texts.value in
    let game = g.G.Sink.taken c.args.writers.now.game in
    let even = g.E.Sink.taken c.args.writers.now.even in
    let odd = g.O.Sink.taken c.args.writers.now.odd in
    let witness = g.V.Sink.taken c.args.writers.now.witness in
    let out = g.W.Sink.taken c.args.writers.now.report in
    refused_on c.from_residual-in_err-found.result c.in_err-found.field-0.0 _ _ c.from_residual-in_err-found.ensures.1
    (beyond_of options.priorities (Some options.board) first second (all_writers c.args.wanted game game even even odd odd witness witness out out)
    texts.system.system (closed_formula texts.formula) c.in_err-found.field-0.0
    (subst (λ (t : Texts). AreSpelled first second t.system.system (closed_formula t.formula)) (sym c.in_ok-texts.ensures) spelled)
    c.in_err-found.ensures.refusal (kept_writers c.args.wanted game even odd witness out))

pub returns-in_err-found-clause-cause : goal.returns-in_err-found-clause-cause
returns-in_err-found-clause-cause g c =
    let texts = c.in_ok-texts.texts.value in
    passed_on c.from_residual-in_err-found.result c.in_err-found.field-0.0 _ c.from_residual-in_err-found.ensures.1
    (beyond_caused (ByGame c.args.options.now.priorities (Some c.args.options.now.board)) texts.system.system (closed_formula texts.formula) _ _
    c.in_err-found.field-0.0 c.in_err-found.ensures.refusal)
