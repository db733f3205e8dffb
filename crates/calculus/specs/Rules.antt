-- The two rules of priorities.
use Rattle.std.specs.Prelude.{ℕ, ◌+◌, max, Bool, false, ◌||◌, List, ◌==◌, if◌then◌else◌}
use Rattle.calculus.specs.Tree.{Formula}
use Rattle.calculus.specs.NormalTree.{Norm, Constant, Junction, Modality, Fixpoint, Variable, size, normal_form}
use Rattle.calculus.specs.Nodes.{Node, Rule, nodes_by, nested_rule, parity_from}
use Rattle.calculus.specs.declared.priorities.Priorities.{Priorities}
use Rattle.calculus.specs.declared.priorities.Priorities.TheVariants.{Nested, Dependent}

-- The variable of binder b stands in the tree. Where b is around the tree it is free there, since each binder has a number of its own.
abbrev pub names : ℕ → Norm → Bool
names b (Constant flag) = false
names b (Junction flag f g) = names b f || names b g
names b (Modality flag a f) = names b f
names b (Fixpoint flag f) = names b f
names b (Variable c) = c == b

-- the greatest priority, by the dependent rule, of the binders in the tree in whose operand the variable of binder b stands, or 0
abbrev pub above : ℕ → ℕ → Norm → ℕ
above b at (Constant flag) = 0
above b at (Junction flag f g) = max (above b (at + 1) f) (above b (at + 1 + size f) g)
above b at (Modality flag a f) = above b (at + 1) f
above b at (Fixpoint flag f) = max (if names b f then parity_from flag (above at (at + 1) f) else 0) (above b (at + 1) f)
above b at (Variable c) = 0

-- The dependent rule: a binder's priority is the least of its parity that is at least those of the binders inside it in whose operand its variable
-- stands; all others have 0.
abbrev pub dependent : Rule
dependent at (Fixpoint flag f) = parity_from flag (above at (at + 1) f)
dependent at f = 0

abbrev pub rule_of : Priorities → Rule
rule_of Nested = nested_rule
rule_of Dependent = dependent

-- the nodes of a formula's normal form, with the priorities of this rule
abbrev pub nodes_with : Priorities → Formula → List Node
nodes_with priorities f = nodes_by (rule_of priorities) 0 (normal_form f)
