use Rattle.workers.proofs.solving.solve_watched.Given as goal

abbrev pub ghosts-run : goal.ghosts-run
ghosts-run g a = record { game = a.game.now }
