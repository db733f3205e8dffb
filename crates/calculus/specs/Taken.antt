-- The labels that modalities take.
use Rattle.std.specs.Prelude.{◌≡◌, ℕ, ◌<◌, Bool, false, List, [], length, Some, slice_get, slice_index_or}
use Rattle.systems.specs.Numbered.{label_at}
use Rattle.systems.specs.declared.system.Transition.{Transition}
use Rattle.calculus.specs.Tree.{Action}
use Rattle.calculus.specs.Holds.{holds}
use Rattle.calculus.specs.NormalTree.{Shape, ModalityNode}
use Rattle.calculus.specs.Nodes.{Node}

-- for each label whether the action formula holds of it
abbrev pub IsSetOf : Action → List (List ℕ) → List Bool → Type 0
IsSetOf a labels set = (k : ℕ) → k < length labels → k < 4294967296 → slice_index_or set k false ≡ holds a (label_at labels k)

abbrev pub IsSetFor : List (List ℕ) → Shape → List Bool → Type 0
IsSetFor labels (ModalityNode flag a child) set = IsSetOf a labels set
IsSetFor labels _ set = set ≡ []

-- a set for each node
abbrev pub AreSets : List (List ℕ) → List Node → List (List Bool) → Type 0
AreSets labels nodes sets = (k : ℕ) (node : Node) → slice_get nodes k ≡ Some node → IsSetFor labels node.shape (slice_index_or sets k [])

-- the label of a transition is in the set
abbrev pub is_in : List Bool → Transition → Bool
is_in set t = slice_index_or set t.label false
