-- When a formula has no normal form within the limits.
use Rattle.std.specs.Prelude.{◌≤◌, ◌<◌}
use Rattle.calculus.specs.Tree.{Formula}
use Rattle.calculus.specs.NormalTree.{node_count}
use Rattle.calculus.specs.Nodes.{greatest_node_priority}
use Rattle.calculus.specs.Rules.{nodes_with}
use Rattle.calculus.specs.declared.limits.TheConstants.{MOST_NODES, GREATEST_PRIORITY}
use Rattle.normal.specs.declared.error.NormalError.{NormalError}
use Rattle.normal.specs.declared.error.NormalError.TheVariants.{TooManyNodes, PriorityTooGreat, Memory}
use Rattle.calculus.specs.declared.priorities.Priorities.{Priorities}
use Rattle.calculus.specs.declared.priorities.Priorities.TheVariants.{Nested}

-- The count decides first, and then the greatest priority. Memory is wanted only where neither is above its limit.
abbrev pub HasRefusalWith : Priorities → Formula → NormalError → Type 0
HasRefusalWith priorities f TooManyNodes = MOST_NODES < node_count f
HasRefusalWith priorities f PriorityTooGreat = (node_count f ≤ MOST_NODES) × (GREATEST_PRIORITY < greatest_node_priority (nodes_with priorities f))
HasRefusalWith priorities f Memory = (node_count f ≤ MOST_NODES) × (greatest_node_priority (nodes_with priorities f) ≤ GREATEST_PRIORITY)

-- the same with the nested priorities
abbrev pub HasRefusal : Formula → NormalError → Type 0
HasRefusal f error = HasRefusalWith Nested f error
