-- Which transitions the play takes.
use Rattle.std.specs.Prelude.{◌≡◌, ℕ, ◌<◌, Bool, List, length, Some, slice_get}
use Rattle.std.specs.List.{list_any, range_with_len}
use Rattle.systems.specs.System.{Arrow}
use Rattle.systems.specs.declared.system.Transition.{Transition}
use Rattle.calculus.specs.Nodes.{Node}
use Rattle.game.specs.Game.{Game}
use Rattle.evidence.specs.Evidence.{Evidence}
use Rattle.evidence.specs.Witness.{is_taken_at}

-- a transition between states of a game of states with so many nodes
pub record IsBetweenStates (g : Game) (nodes : ℕ) (t : Transition) : Type 0 where
  pub states : ℕ
  pub named : g.named ≡ Some (states, nodes)
  pub source : t.source < states
  pub target : t.target < states

-- The play takes the arrow from some node.
abbrev pub is_taken_by_some : List Node → Evidence → (ℕ → Bool) → Arrow → Bool
is_taken_by_some nodes e set arrow = list_any (λ k. is_taken_at (length nodes) e set arrow k (slice_get nodes k)) (range_with_len 0 (length nodes))
