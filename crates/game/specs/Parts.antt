-- The vertices of an arena in parts, by ranges of states.
use Rattle.std.specs.Prelude.{ℕ, ◌*◌, List, [], ◌∷◌, take, drop}
use Rattle.std.specs.List.{range_with_len}
use Rattle.systems.specs.System.{System}
use Rattle.calculus.specs.Nodes.{Node}
use Rattle.game.specs.declared.player.Player.TheVariants.{Even}
use Rattle.game.specs.Game.{Vertex}
use Rattle.game.specs.Arena.{rows}

-- the true sink and the false one
abbrev pub two_sinks : List Vertex
two_sinks = record { owner = Even; priority = 0; successors = 0 ∷ [] } ∷ record { owner = Even; priority = 1; successors = 1 ∷ [] } ∷ []

-- the range of this number, where the list is cut into ranges of this size
abbrev pub range_of : {X : Type 0} → ℕ → ℕ → List X → List X
range_of size r xs = take size (drop (r * size) xs)

-- the vertices of the states of that range
abbrev pub vertices_of_range : System → List Node → ℕ → ℕ → List Vertex
vertices_of_range l nodes size r = rows l nodes (range_of size r (range_with_len 0 l.states))
