use Rattle.suite_solving.proofs.unasked.of_settled.Given as goal

abbrev pub ghosts-of_shard : goal.ghosts-of_shard
ghosts-of_shard g a = record { game = a.game.now }
