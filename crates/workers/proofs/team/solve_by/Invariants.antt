use Rattle.workers.proofs.team.solve_by.Given as goal

abbrev pub ghosts-solve_locked : goal.ghosts-solve_locked
ghosts-solve_locked g a = record { game = a.game.now.value }
