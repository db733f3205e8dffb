use Rattle.engines.proofs.play.play_by_game.Goals as goal

pub returns-clause-play : goal.returns-clause-play
returns-clause-play g c = c.play_in.ensures.play c.args.options.now.priorities c.args.options.now.board c.in_ok-found.ensures.way
