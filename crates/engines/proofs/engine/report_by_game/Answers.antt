use Rattle.std.proofs.Common.{Some}
use Rattle.requests.specs.Check.{ByGame}
use Rattle.engines.proofs.engine.report_by_game.Goals as goal

pub returns-clause-answers : goal.returns-clause-answers
returns-clause-answers g c = λ first second spelled.
    let options = c.args.options.now in
    c.report.ensures.answers (ByGame options.priorities (Some options.board)) first second c.game_marks-marks.ensures spelled
