-- Nodes of a closed tree, with priorities that fit its binders.
use Rattle.std.specs.Prelude.{◌≡◌, ◌≢◌, ℕ, ◌+◌, ◌≤◌, ◌⊎◌, List, map, Option, Some, None, slice_get}
use Rattle.calculus.specs.NormalTree.{Norm, Constant, Junction, Modality, Fixpoint, Variable, size, Shape, shape_at, preorder}
use Rattle.calculus.specs.Nodes.{Node}
use Rattle.measures.specs.Measure.{is_odd}

-- The variable of binder b stands in the tree, and the binder around the tree.
abbrev pub IsFree : ℕ → ℕ → Norm → Type 0
IsFree b at (Constant flag) = ⊥
IsFree b at (Junction flag f g) = IsFree b (at + 1) f ⊎ IsFree b (at + 1 + size f) g
IsFree b at (Modality flag a f) = IsFree b (at + 1) f
IsFree b at (Fixpoint flag f) = (b ≢ at) × IsFree b (at + 1) f
IsFree b at (Variable c) = c ≡ b

-- no variable without its binder
abbrev pub IsClosed : Norm → Type 0
IsClosed f = (b : ℕ) → IsFree b 0 f → ⊥

-- This holds of each part of the tree with its number.
abbrev pub IsEach : (ℕ → Norm → Type 0) → ℕ → Norm → Type 0
IsEach P at (Constant flag) = P at (Constant flag)
IsEach P at (Junction flag f g) = P at (Junction flag f g) × IsEach P (at + 1) f × IsEach P (at + 1 + size f) g
IsEach P at (Modality flag a f) = P at (Modality flag a f) × IsEach P (at + 1) f
IsEach P at (Fixpoint flag f) = P at (Fixpoint flag f) × IsEach P (at + 1) f
IsEach P at (Variable b) = P at (Variable b)

-- The priority of a part: 0 at what binds nothing; odd at mu and even at nu, and at most that of each binder around it whose variable is free in it.
abbrev pub IsFitting : (ℕ → ℕ) → ℕ → Norm → Type 0
IsFitting prio at (Fixpoint flag f) = (is_odd (prio at) ≡ flag) × ((b : ℕ) → IsFree b at (Fixpoint flag f) → prio at ≤ prio b)
IsFitting prio at f = prio at ≡ 0

-- priorities by number that fit each part of the tree
abbrev pub IsAdmissible : (ℕ → ℕ) → Norm → Type 0
IsAdmissible prio f = IsEach (IsFitting prio) 0 f

-- The same from the binder's side: 0 at what binds nothing; odd at mu and even at nu, and at least that of each part inside in which the binder's
-- variable is free.
abbrev pub IsAboveInner : (ℕ → ℕ) → ℕ → Norm → Type 0
IsAboveInner prio at (Fixpoint flag f) = (is_odd (prio at) ≡ flag) × IsEach (λ c g. IsFree at c g → prio c ≤ prio at) (at + 1) f
IsAboveInner prio at f = prio at ≡ 0

abbrev pub priority_or : Option Node → ℕ
priority_or None = 0
priority_or (Some node) = node.priority

-- the priority of the node of this number
abbrev pub priority_in : List Node → ℕ → ℕ
priority_in nodes k = priority_or (slice_get nodes k)

abbrev pub shapes_of : List Node → List Shape
shapes_of nodes = map (λ node. node.shape) nodes

-- The nodes are those of a closed tree, with admissible priorities.
pub record IsNodes (f : Norm) (nodes : List Node) : Type 0 where
  pub shapes : shapes_of nodes ≡ preorder shape_at 0 f
  pub closed : IsClosed f
  pub admissible : IsAdmissible (priority_in nodes) f
