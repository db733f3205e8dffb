-- The parity game of a system and a normal form.
use Rattle.std.specs.Prelude.{ℕ, ◌+◌, ◌*◌, ◌<◌, Option, MatchOption, option_map, Bool, false, ◌&&◌, List, [], ◌∷◌, ◌++◌, length, map, filter, Some, ◌==◌}
use Rattle.std.specs.Prelude.{if◌then◌else◌}
use Rattle.std.specs.List.{list_any, range_with_len}
use Rattle.systems.specs.System.{System}
use Rattle.calculus.specs.Tree.{Action}
use Rattle.calculus.specs.Holds.{holds}
use Rattle.calculus.specs.NormalTree.{Shape, ConstantNode, JunctionNode, ModalityNode, FixpointNode, VariableNode}
use Rattle.calculus.specs.Nodes.{Node}
use Rattle.game.specs.declared.player.Player.{Player}
use Rattle.game.specs.declared.player.Player.TheVariants.{Even, Odd}
use Rattle.game.specs.Game.{Vertex, Game}

-- some transition from s to t has a label of which the action formula holds
abbrev pub is_step : System → Action → ℕ → ℕ → Bool
is_step l a s t = list_any (λ arrow. arrow.source == s && arrow.target == t && holds a arrow.label) l.arrows

-- the states that are reached from s so, ascending
abbrev pub targets : System → Action → ℕ → List ℕ
targets l a s = filter (is_step l a s) (range_with_len 0 l.states)

-- the vertex of state s with node k of K
abbrev pub place : ℕ → ℕ → ℕ → ℕ
place nodes s k = 2 + (s * nodes + k)

-- a state and a node of the numbers by which the game's vertices are named
abbrev pub AreNames : Game → ℕ → ℕ → Type 0
AreNames g s k = MatchOption g.named ⊥ (λ n. (s < n.0) × (k < n.1))

-- the vertex of these names
abbrev pub place_in : Game → ℕ → ℕ → Option ℕ
place_in g s k = option_map (λ n. place n.1 s k) g.named

-- these vertices, or else this one
abbrev pub or_else : List ℕ → ℕ → List ℕ
or_else [] v = v ∷ []
or_else (t ∷ ts) v = t ∷ ts

-- Odd owns `and` and boxes.
abbrev pub owner_of : Shape → Player
owner_of (JunctionNode false left right) = Odd
owner_of (ModalityNode false a child) = Odd
owner_of _ = Even

-- vertex 0 is the true sink and vertex 1 the false one
abbrev pub sink : Bool → ℕ
sink flag = if flag then 0 else 1

-- A modality leads to its child at each state that is reached; where there is none, a diamond fails and a box holds.
abbrev pub successors_of : System → ℕ → ℕ → Shape → List ℕ
successors_of l nodes s (ConstantNode flag) = sink flag ∷ []
successors_of l nodes s (JunctionNode flag left right) = place nodes s left ∷ place nodes s right ∷ []
successors_of l nodes s (ModalityNode flag a child) = or_else (map (λ t. place nodes t child) (targets l a s)) (if flag then 1 else 0)
successors_of l nodes s (FixpointNode flag child) = place nodes s child ∷ []
successors_of l nodes s (VariableNode binder) = place nodes s binder ∷ []

abbrev pub vertex_of : System → ℕ → ℕ → Node → Vertex
vertex_of l nodes s node = record { owner = owner_of node.shape; priority = node.priority; successors = successors_of l nodes s node.shape }

abbrev pub rows : System → List Node → List ℕ → List Vertex
rows l nodes [] = []
rows l nodes (s ∷ states) = map (vertex_of l (length nodes) s) nodes ++ rows l nodes states

-- the sinks, and then each state with each node
abbrev pub arena : System → List Node → Game
arena l nodes = record {
  vertices = record { owner = Even; priority = 0; successors = 0 ∷ [] } ∷ record { owner = Even; priority = 1; successors = 1 ∷ [] } ∷ rows l nodes
      (range_with_len 0 l.states);
  named = Some (l.states, length nodes);
}
