use Rattle.suite_solving.proofs.common.lifted.Given as goal

abbrev pub ghosts-lifted_by_name : goal.ghosts-lifted_by_name
ghosts-lifted_by_name g a = record { game = a.game.now.value }
