-- The nodes of a normal form with their priorities.
use Rattle.std.specs.Prelude.{ℕ, ◌+◌, ◌-◌, ◌%◌, max, Bool, true, false, List, [], ◌∷◌}
use Rattle.calculus.specs.Tree.{Formula}
use Rattle.calculus.specs.NormalTree.{Norm, Constant, Junction, Modality, Fixpoint, Variable, Shape, shape_at, preorder, normal_form}

pub record Node : Type 0 where
  pub shape : Shape
  pub priority : ℕ

-- A rule of priorities: the priority of a part of the tree, by its number and what it is.
abbrev pub Rule : Type 0
Rule = ℕ → Norm → ℕ

abbrev pub node_at : Rule → ℕ → Norm → Node
node_at rule at f = record { shape = shape_at at f; priority = rule at f }

-- the nodes in preorder, with the priorities of the rule
abbrev pub nodes_by : Rule → ℕ → Norm → List Node
nodes_by rule at f = preorder (node_at rule) at f

-- the least number of the fixpoint's parity, odd for mu and even for nu, from n on
abbrev pub parity_from : Bool → ℕ → ℕ
parity_from true n = n + (1 - n % 2)
parity_from false n = n + n % 2

-- the greatest priority in the tree by the nested rule
abbrev pub greatest_nested : Norm → ℕ
greatest_nested (Constant flag) = 0
greatest_nested (Junction flag f g) = max (greatest_nested f) (greatest_nested g)
greatest_nested (Modality flag a f) = greatest_nested f
greatest_nested (Fixpoint flag f) = parity_from flag (greatest_nested f)
greatest_nested (Variable binder) = 0

-- The nested rule: a binder's priority is the least of its parity that is at least those of all binders inside it; all others have 0.
abbrev pub nested_rule : Rule
nested_rule at (Fixpoint flag f) = parity_from flag (greatest_nested f)
nested_rule at f = 0

-- the nodes of a formula's normal form, with the nested priorities
abbrev pub nodes : Formula → List Node
nodes f = nodes_by nested_rule 0 (normal_form f)

-- the greatest priority that a node of the list has, and 0 where there is no node
abbrev pub greatest_node_priority : List Node → ℕ
greatest_node_priority [] = 0
greatest_node_priority (node ∷ nodes) = max node.priority (greatest_node_priority nodes)
