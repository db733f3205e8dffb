-- What holds of all normal forms.
use Rattle.std.specs.Prelude.{◌≡◌, ◌≤◌}
use Rattle.std.specs.List.{AllZip}
use Rattle.calculus.specs.Tree.{Formula}
use Rattle.calculus.specs.NormalTree.{size, node_count, depth, normal_form}
use Rattle.calculus.specs.Nodes.{greatest_node_priority}
use Rattle.calculus.specs.Rules.{nodes_with}
use Rattle.calculus.specs.declared.priorities.Priorities.{Priorities}
use Rattle.calculus.specs.declared.priorities.Priorities.TheVariants.{Nested, Dependent}

-- By either rule, no node's priority is above the length of the longest alternating chain.
abbrev pub PriorityWithinDepth : Type 0
PriorityWithinDepth = (priorities : Priorities) (f : Formula) → greatest_node_priority (nodes_with priorities f) ≤ depth (normal_form f)

abbrev pub CountIsSize : Type 0
CountIsSize = (f : Formula) → node_count f ≡ size (normal_form f)

-- No dependent priority is above the nested one of the same node.
abbrev pub DependentIsLower : Type 0
DependentIsLower = (f : Formula) → AllZip (λ d n. d.priority ≤ n.priority) (nodes_with Dependent f) (nodes_with Nested f)
