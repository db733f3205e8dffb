-- What all workers share.
use Rattle.std.specs.Prelude.{◌≡◌}
use Rattle.game.specs.Game.{Game}

-- the game that is lifted, that of the board and that of the predecessors are the one that is named
abbrev pub IsOneGame : Game → Game → Game → Game → Type 0
IsOneGame named lifted on_board of_predecessors = (lifted ≡ named) × (on_board ≡ named) × (of_predecessors ≡ named)
