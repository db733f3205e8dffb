-- What a fixpoint asks of each state that is reachable.
use Rattle.std.specs.Prelude.{◌≡◌, ℕ, ◌-◌, ◌/◌, ◌%◌, Bool, true, false, not, ◌&&◌, ◌==◌, List, Option, Some, None, length, option_map, slice_get, if◌then◌else◌}
use Rattle.std.specs.List.{list_any}
use Rattle.systems.specs.System.{Arrow, System}
use Rattle.systems.specs.Numbered.{arrows_from}
use Rattle.calculus.specs.Tree.{Action, Anything}
use Rattle.calculus.specs.Holds.{holds}
use Rattle.calculus.specs.Nodes.{Node}
use Rattle.calculus.specs.NormalTree.{Shape, ConstantNode, JunctionNode, ModalityNode, FixpointNode, VariableNode}
use Rattle.calculus.specs.View.{action_of}
use Rattle.witness.specs.Walk.{CanBeReached, CountsReached}
use Rattle.why.specs.declared.everywhere.StepTest.{StepTest as LentTest}

-- the state of a vertex, where there are so many nodes
abbrev pub state_of : ℕ → ℕ → ℕ
state_of nodes v = (v - 2) / nodes

-- the number of its node
abbrev pub node_of : ℕ → ℕ → ℕ
node_of nodes v = (v - 2) % nodes

-- what the node of this number is
abbrev pub shape_of_node : List Node → ℕ → Option Shape
shape_of_node nodes k = option_map (λ (node : Node). node.shape) (slice_get nodes k)

-- It is a variable of this binder.
abbrev pub is_variable : (binder : ℕ) → Option Shape → Bool
is_variable k (Some (VariableNode binder)) = binder == k
is_variable k _ = false

-- It is `<true>X` for a least fixpoint, and `[true]X` for a greatest one, X the variable of this binder.
abbrev pub steps_again : List Node → (least : Bool) → (binder : ℕ) → Option Shape → Bool
steps_again nodes least k (Some (ModalityNode true Anything child)) = least && is_variable k (shape_of_node nodes child)
steps_again nodes least k (Some (ModalityNode false Anything child)) = not least && is_variable k (shape_of_node nodes child)
steps_again nodes least k _ = false

-- f, where one of two nodes is such a modality and the other one is f
abbrev pub part_beside : List Node → Bool → (binder left right : ℕ) → Option ℕ
part_beside nodes least k left right =
    if steps_again nodes least k (shape_of_node nodes left) then Some right
    else (if steps_again nodes least k (shape_of_node nodes right) then Some left else None)

-- f, where it is joined with such a modality, by `||` for a least fixpoint and by `&&` for a greatest one
abbrev pub part_joined : List Node → Bool → (binder : ℕ) → Option Shape → Option ℕ
part_joined nodes least k (Some (JunctionNode true left right)) = if least then part_beside nodes least k left right else None
part_joined nodes least k (Some (JunctionNode false left right)) = if least then None else part_beside nodes least k left right
part_joined nodes least k _ = None

abbrev pub part_under : List Node → (binder : ℕ) → Option Shape → Option ℕ
part_under nodes k (Some (FixpointNode least child)) = part_joined nodes least k (shape_of_node nodes child)
part_under nodes k _ = None

-- f, where the node of this number is `mu X. (f || <true>X)` or `nu X. (f && [true]X)`, with its parts in either order
abbrev pub asked_part : List Node → ℕ → Option ℕ
asked_part nodes k = part_under nodes k (shape_of_node nodes k)

-- It is this constant.
abbrev pub is_constant : Bool → Option Shape → Bool
is_constant flag (Some (ConstantNode true)) = flag
is_constant flag (Some (ConstantNode false)) = not flag
is_constant flag _ = false

-- That a state has a step by an action, or none.
pub record StepTest : Type 0 where
  pub action : Action
  pub possible : Bool

abbrev pub test_of : LentTest → StepTest
test_of t = record { action = action_of t.action.now; possible = t.possible }

-- what holds where `<a>true` or `[a]false` holds, or what holds where it doesn't
abbrev pub step_test : List Node → (holds : Bool) → Option Shape → Option StepTest
step_test nodes holds (Some (ModalityNode true a child)) =
    if is_constant true (shape_of_node nodes child) then Some record { action = a; possible = holds } else None
step_test nodes holds (Some (ModalityNode false a child)) =
    if is_constant false (shape_of_node nodes child) then Some record { action = a; possible = not holds } else None
step_test nodes holds _ = None

abbrev pub test_of_part : List Node → (holds : Bool) → Option ℕ → Option StepTest
test_of_part nodes holds None = None
test_of_part nodes holds (Some part) = step_test nodes holds (shape_of_node nodes part)

abbrev pub is_greatest : Option Shape → Bool
is_greatest (Some (FixpointNode least child)) = not least
is_greatest _ = false

-- what holds of each reachable state where the fixpoint of this node decides at once: where a least one doesn't hold, and where a greatest one does
abbrev pub asked_test : List Node → ℕ → Option StepTest
asked_test nodes k = test_of_part nodes (is_greatest (shape_of_node nodes k)) (asked_part nodes k)

-- The state has a step by the action.
abbrev pub has_step : System → Action → ℕ → Bool
has_step l a s = list_any (λ (arrow : Arrow). holds a arrow.label) (arrows_from l s)

-- What the fixpoint of the vertex asks is so of each state that is reachable from there, of which there are so many.
pub record IsEverywhere (l : System) (nodes : List Node) (u n : ℕ) : Type 0 where
  pub test : StepTest
  pub asked : asked_test nodes (node_of (length nodes) u) ≡ Some test
  pub each : (s : ℕ) → CanBeReached l (state_of (length nodes) u) s → has_step l test.action s ≡ test.possible
  pub count : CountsReached l (state_of (length nodes) u) n
