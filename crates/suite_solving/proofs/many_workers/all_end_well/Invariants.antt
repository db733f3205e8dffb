use Rattle.suite_solving.proofs.many_workers.all_end_well.Given as goal

abbrev pub ghosts-end_well : goal.ghosts-end_well
ghosts-end_well g a = record { game = a.game.now.value }
