-- The text of a normal form.
use Rattle.std.specs.Prelude.{ℕ, ◌+◌, List, [], ◌∷◌, ◌++◌, length, codes, decimal, if◌then◌else◌}
use Rattle.std.specs.List.{join_with_byte}
use Rattle.text.specs.Pieces.{line_end}
use Rattle.calculus.specs.Canon.{action_text}
use Rattle.calculus.specs.NormalTree.{Shape, ConstantNode, JunctionNode, ModalityNode, FixpointNode, VariableNode}
use Rattle.calculus.specs.Nodes.{Node, greatest_node_priority}

-- fields, with one space between them
abbrev pub fields : List (List ℕ) → List ℕ
fields = join_with_byte 32

-- fields, each after a space
abbrev pub after_spaces : List (List ℕ) → List ℕ
after_spaces [] = []
after_spaces (field ∷ others) = 32 ∷ (field ++ after_spaces others)

-- what a node is: of each pair the first where the flag is true
abbrev pub kind_text : Shape → List ℕ
kind_text (ConstantNode flag) = if flag then codes "true" else codes "false"
kind_text (JunctionNode flag left right) = if flag then codes "or" else codes "and"
kind_text (ModalityNode flag a child) = if flag then codes "dia" else codes "box"
kind_text (FixpointNode flag child) = if flag then codes "mu" else codes "nu"
kind_text (VariableNode binder) = codes "var"

-- what comes after the priority: the children's numbers, a modality's action after its child, a variable's binder
abbrev pub rest_of : Shape → List (List ℕ)
rest_of (ConstantNode flag) = []
rest_of (JunctionNode flag left right) = decimal left ∷ decimal right ∷ []
rest_of (ModalityNode flag a child) = decimal child ∷ action_text a ∷ []
rest_of (FixpointNode flag child) = decimal child ∷ []
rest_of (VariableNode binder) = decimal binder ∷ []

-- `number kind priority ..`
abbrev pub node_line : ℕ → Node → List ℕ
node_line k node = fields (decimal k ∷ kind_text node.shape ∷ decimal node.priority ∷ rest_of node.shape) ++ line_end

-- a line for each node from number k on
abbrev pub node_lines : ℕ → List Node → List ℕ
node_lines k [] = []
node_lines k (node ∷ nodes) = node_line k node ++ node_lines (k + 1) nodes

-- `nodes K priority P depth D`
abbrev pub summary_line : List Node → ℕ → List ℕ
summary_line nodes depth =
    fields (codes "nodes" ∷ decimal (length nodes) ∷ codes "priority" ∷ decimal (greatest_node_priority nodes) ∷ codes "depth" ∷ decimal depth ∷ []) ++ line_end

-- the summary, and then a line for each node
abbrev pub normal_text : List Node → ℕ → List ℕ
normal_text nodes depth = summary_line nodes depth ++ node_lines 0 nodes
