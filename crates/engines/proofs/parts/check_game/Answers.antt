use Rattle.std.proofs.Common.{◌∙◌, None, Some, refl, sym}
use Rattle.calculus.specs.Closed.{closed_formula}
use Rattle.requests.specs.Check.{ByGame}
use Rattle.requests.specs.Writers.{all_writers}
use Rattle.requests.proofs.Caused.{beyond_caused}
use Rattle.text.proofs.PassedOn.{passed_on}
use Rattle.verdicts.proofs.Beyond.{beyond_of}
use Rattle.engines.specs.Prepared.{ArePrepared, Outcome}
use Rattle.engines.specs.declared.prepared.Prepared.{Prepared}
use Rattle.engines.proofs.Checks.{kept_writers}
use Rattle.engines.proofs.Orders.{refused_on}
use Rattle.engines.proofs.Putting.{stored_as}
use Rattle.engines.proofs.parts.check_game.Goals as goal

pub returns-clause-answers : goal.returns-clause-answers
returns-clause-answers g c = λ first second spelled.
    let options = c.args.options.now in
    let found = c.in_ok-found.found in
    let x : Outcome = record { rule = options.priorities; board = Some options.board; texts = c.args.texts.now; marks = found.marks.items } in
    let p : Prepared = record { wanted = c.args.wanted; game = c.game_where.result; evidence = c.by_least.result; shown = None } in
    let made : ArePrepared x p = record {
      stored = c.game_where.ensures.wanted;
      game = stored_as (λ y. y.now) _ _ c.game_where.result (c.deref.ensures ∙ c.in_ok-found.ensures.game.same) c.game_where.ensures.game;
      made = c.by_least.ensures.made ∙ c.requires.evidence;
      both = c.by_least.ensures.both x options.board c.requires.least;
      form = sym c.requires.witness;
      shown = tt;
    } in
    c.answer_prepared.ensures.answers x first second refl (sym c.deref-2.ensures.value) made c.in_ok-found.ensures.marks spelled

pub returns-in_err-found-clause-answers : goal.returns-in_err-found-clause-answers
returns-in_err-found-clause-answers g c = λ first second spelled.
    let options = c.args.options.now in
    let game = g.G.Sink.taken c.args.writers.now.game in
    let even = g.E.Sink.taken c.args.writers.now.even in
    let odd = g.O.Sink.taken c.args.writers.now.odd in
    let witness = g.V.Sink.taken c.args.writers.now.witness in
    let out = g.W.Sink.taken c.args.writers.now.report in
    refused_on c.from_residual.result c.in_err-found.field-0.0 _ _ c.from_residual.ensures.1
    (beyond_of options.priorities (Some options.board) first second (all_writers c.args.wanted game game even even odd odd witness witness out out)
    c.args.texts.now.system.system (closed_formula c.args.texts.now.formula)
    c.in_err-found.field-0.0 spelled c.in_err-found.ensures (kept_writers c.args.wanted game even odd witness out))

pub returns-in_err-found-clause-cause : goal.returns-in_err-found-clause-cause
returns-in_err-found-clause-cause g c = passed_on c.from_residual.result c.in_err-found.field-0.0 _ c.from_residual.ensures.1
    (beyond_caused (ByGame c.args.options.now.priorities (Some c.args.options.now.board)) c.args.texts.now.system.system
    (closed_formula c.args.texts.now.formula) _ _ c.in_err-found.field-0.0 c.in_err-found.ensures)
