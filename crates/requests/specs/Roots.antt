-- The vertices of the states with the root node.
use Rattle.std.specs.Prelude.{◌≡◌, ℕ, ◌≤◌, Some}
use Rattle.game.specs.Game.{Game}
use Rattle.game.specs.Arena.{place_in}
use Rattle.game.specs.Wins.{Wins}

-- the game's vertices are so many states with some nodes
abbrev pub HasRoots : ℕ → Game → Type 0
HasRoots states g = (nodes : ℕ) × (1 ≤ nodes) × (g.named ≡ Some (states, nodes))

-- Even wins the state's vertex with the root node.
abbrev pub WinsRoot : Game → ℕ → Type 0
WinsRoot g s = (v : ℕ) × (place_in g s 0 ≡ Some v) × Wins g v
