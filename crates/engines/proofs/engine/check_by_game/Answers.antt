use Rattle.std.proofs.Common.{Some, subst, sym}
use Rattle.requests.specs.declared.request.Wanted.{Wanted}
use Rattle.requests.specs.Check.{AnswersCheck, ByGame}
use Rattle.requests.specs.Writers.{all_writers}
use Rattle.engines.proofs.Checks.{alone_of}
use Rattle.engines.proofs.engine.check_by_game.Goals as goal

pub returns-then-is_nothing-clause-answers : goal.returns-then-is_nothing-clause-answers
returns-then-is_nothing-clause-answers g c = λ first second spelled.
    let options = c.args.options.now in
    let way = ByGame options.priorities (Some options.board) in
    let game = g.G.Sink.taken c.args.writers.now.game in
    let even = g.E.Sink.taken c.args.writers.now.even in
    let odd = g.O.Sink.taken c.args.writers.now.odd in
    let witness = g.V.Sink.taken c.args.writers.now.witness in
    let old = g.W.Sink.taken c.args.writers.now.report in
    let new = g.W.Sink.taken c.report_by_game.new.out in
    subst (λ (w : Wanted). AnswersCheck way first second (all_writers w game game even even odd odd witness witness old new) c.report_by_game.result)
    (sym (c.is_nothing.ensures.0 c.if-is_nothing.true))
    (alone_of way first second c.args.wanted.report game even odd witness old new c.report_by_game.result (c.report_by_game.ensures.answers first second spelled))
