-- What holds of the nodes of every normal form.
use Rattle.std.specs.Prelude.{ℕ, ◌<◌, ◌≤◌, List, length}
use Rattle.std.specs.List.{AllByRecursion, AllByRecursion-prop}
use Rattle.std.specs.Coded.{×_prop, Unit-prop, le_prop}
use Rattle.calculus.specs.declared.limits.TheConstants.{MOST_NODES, GREATEST_PRIORITY}
use Rattle.calculus.specs.NormalTree.{Shape, ConstantNode, JunctionNode, ModalityNode, FixpointNode, VariableNode}
use Rattle.calculus.specs.Nodes.{Node}

-- the numbers in it are below n, and a junction's left operand comes first
abbrev pub IsShape : ℕ → Shape → Type 0
IsShape n (ConstantNode flag) = Unit {0}
IsShape n (JunctionNode flag left right) = (left < right) × (right < n)
IsShape n (ModalityNode flag a child) = child < n
IsShape n (FixpointNode flag child) = child < n
IsShape n (VariableNode binder) = binder < n

abbrev pub IsNode : ℕ → Node → Type 0
IsNode n node = (node.priority ≤ GREATEST_PRIORITY) × IsShape n node.shape

abbrev pub AreNumbered : List Node → Type 0
AreNumbered nodes = AllByRecursion (IsNode (length nodes)) nodes

pub record IsForm (nodes : List Node) : Type 0 where
  pub some : 1 ≤ length nodes
  pub limit : length nodes ≤ MOST_NODES
  pub numbered : AreNumbered nodes

pub IsShape-prop : (n : ℕ) (s : Shape) → IsProp (IsShape n s)
IsShape-prop n (ConstantNode flag) = Unit-prop
IsShape-prop n (JunctionNode flag left right) = ×_prop le_prop le_prop
IsShape-prop n (ModalityNode flag a child) = le_prop
IsShape-prop n (FixpointNode flag child) = le_prop
IsShape-prop n (VariableNode binder) = le_prop

pub AreNumbered-prop : (nodes : List Node) → IsProp (AreNumbered nodes)
AreNumbered-prop nodes = AllByRecursion-prop (IsNode (length nodes)) (λ node. ×_prop le_prop (IsShape-prop (length nodes) node.shape)) nodes
