-- How the successors of a modality are found.
use Rattle.std.specs.Prelude.{◌≡◌, ℕ, ◌+◌, ◌<◌, Bool, false, ◌&&◌, List, [], ◌∷◌, length, map, nat_le, Some, slice_get, slice_index_or, if◌then◌else◌}
use Rattle.std.specs.List.{list_any, AllByRecursion}
use Rattle.std.specs.List.Sorted.{IsNonDecreasingBy}
use Rattle.systems.specs.System.{Arrow}
use Rattle.systems.specs.Numbered.{Numbered, label_at, arrow_of, arrows_from, IsInside}
use Rattle.systems.specs.declared.system.Transition.{Transition}
use Rattle.calculus.specs.Tree.{Action}
use Rattle.calculus.specs.Holds.{holds}
use Rattle.calculus.specs.NormalTree.{Shape, ConstantNode, JunctionNode, ModalityNode, FixpointNode, VariableNode}
use Rattle.calculus.specs.Nodes.{Node}
use Rattle.game.specs.Game.{Vertex}
use Rattle.game.specs.Arena.{place, or_else, sink, owner_of}

-- the transitions from the state, by target
pub record IsRowOf (l : Numbered) (s : ℕ) (row : List Transition) : Type 0 where
  pub same : (q : Arrow → Bool) → list_any (λ t. q (arrow_of l.labels t)) row ≡ list_any q (arrows_from l.system s)
  pub sorted : IsNonDecreasingBy (λ t. t.target) row
  pub inside : IsInside l row
  pub numbers : AllByRecursion (λ t. t.label < 4294967296) row

-- the targets from this one on of the transitions that pass, each once
abbrev pub picks : (Transition → Bool) → ℕ → List Transition → List ℕ
picks p least [] = []
picks p least (t ∷ row) = if p t && nat_le least t.target then t.target ∷ picks p (t.target + 1) row else picks p least row

-- a node's vertex, where a modality reaches these states
abbrev pub successors_by : ℕ → ℕ → List ℕ → Shape → List ℕ
successors_by nodes s reached (ConstantNode flag) = sink flag ∷ []
successors_by nodes s reached (JunctionNode flag left right) = place nodes s left ∷ place nodes s right ∷ []
successors_by nodes s reached (ModalityNode flag a child) = or_else (map (λ t. place nodes t child) reached) (if flag then 1 else 0)
successors_by nodes s reached (FixpointNode flag child) = place nodes s child ∷ []
successors_by nodes s reached (VariableNode binder) = place nodes s binder ∷ []

abbrev pub vertex_by : ℕ → ℕ → List ℕ → Node → Vertex
vertex_by nodes s reached node = record { owner = owner_of node.shape; priority = node.priority; successors = successors_by nodes s reached node.shape }
