use Rattle.std.proofs.Common.{rules}
use Rattle.std.specs.Arc.{arc_value}
use Rattle.commands.specs.Winners.{AreWinners}
use Rattle.commands.proofs.Solving.{solved_of}
use Rattle.commands.proofs.solve_text.prove_and_write.Goals as goal

pub returns-clause-answers : goal.returns-clause-answers
returns-clause-answers g c = λ text is.
    let game = arc_value c.args.game.now in
    let exact : AreWinners game c.deref-2.result.now = search rules in
    solved_of c.args.options.now.board text game c.deref-2.result.now _ c.put_all.result c.answered.result is c.in_ok-pair.ensures.board exact
    (c.put_all.ensures game c.in_ok-pair.ensures.full) c.answered.ensures
