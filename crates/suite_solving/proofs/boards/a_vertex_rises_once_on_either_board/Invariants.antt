use Rattle.suite_solving.proofs.boards.a_vertex_rises_once_on_either_board.Given as goal

abbrev pub ghosts-rises_on_shards : goal.ghosts-rises_on_shards
ghosts-rises_on_shards g a = record { game = a.game.now.value }
