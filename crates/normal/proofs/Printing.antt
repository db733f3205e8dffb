-- The text of a node is its first three fields and then the others.
use Rattle.std.proofs.Common.{◌≡◌, ℕ, ◌+◌, ◌<◌, ◌≤◌, max, List, [], ◌∷◌, ◌++◌, length, drop, get_or, drop-cons, add-one, decimal, refl, sym, ap, ◌∙◌}
use Rattle.std.proofs.Common.{append_assoc, append-nil}
use Rattle.std.proofs.Math.ListN.{drop_of_length-le}
use Rattle.calculus.specs.Nodes.{Node, greatest_node_priority}
use Rattle.text.specs.Pieces.{line_end}
use Rattle.normal.specs.NormalText.{fields, after_spaces, kind_text, rest_of, node_line, node_lines}
use Rattle.calculus.specs.NodeView.{node_of, nodes_of}
use Rattle.calculus.specs.declared.node as declared

one_more : (a : List ℕ) (others : List (List ℕ)) → fields (a ∷ others) ≡ a ++ after_spaces others
one_more a [] = sym (append-nil a)
one_more a (b ∷ others) = ap (λ text. a ++ 32 ∷ text) (one_more b others)

three_first : (a b c : List ℕ) (others : List (List ℕ)) → fields (a ∷ b ∷ c ∷ []) ++ after_spaces others ≡ fields (a ∷ b ∷ c ∷ others)
three_first a b c others =
    append_assoc a (32 ∷ (b ++ 32 ∷ c)) (after_spaces others)
    ∙ (ap (λ text. a ++ 32 ∷ text) (append_assoc b (32 ∷ c) (after_spaces others)) ∙ ap (λ text. a ++ 32 ∷ (b ++ 32 ∷ text)) (sym (one_more c others)))

-- a node's line, in two parts
pub line_is : (k : ℕ) (node : Node) → fields (decimal k ∷ kind_text node.shape ∷ decimal node.priority ∷ [])
    ++ (after_spaces (rest_of node.shape) ++ line_end) ≡ node_line k node
line_is k node =
    sym (append_assoc (fields (decimal k ∷ kind_text node.shape ∷ decimal node.priority ∷ [])) (after_spaces (rest_of node.shape)) line_end)
    ∙ ap (λ text. text ++ line_end) (three_first (decimal k) (kind_text node.shape) (decimal node.priority) (rest_of node.shape))

-- what is left begins with the next node's line
pub next_node : (nodes : List declared.Node.Node) (i : ℕ) (node : declared.Node.Node) → i < length nodes → node ≡ get_or nodes i node
    → node_lines i (nodes_of (drop i nodes)) ≡ node_line i (node_of node) ++ node_lines (i + 1) (nodes_of (drop (i + 1) nodes))
next_node nodes i node below at =
    let first : node_lines i (nodes_of (drop i nodes)) ≡ node_line i (node_of (get_or nodes i node))
    ++ node_lines (i + 1) (nodes_of (drop (i + 1) nodes)) = rw (drop-cons nodes i node below, add-one i) refl in
    first ∙ ap (λ (x : declared.Node.Node). node_line i (node_of x) ++ node_lines (i + 1) (nodes_of (drop (i + 1) nodes))) (sym at)

pub no_nodes : (nodes : List declared.Node.Node) (i : ℕ) → length nodes ≤ i → node_lines i (nodes_of (drop i nodes)) ≡ []
no_nodes nodes i past = ap (λ l. node_lines i (nodes_of l)) (drop_of_length-le nodes past)

-- the greatest priority of those that are left is that of the next or of the others
pub next_greatest : (nodes : List declared.Node.Node) (i : ℕ) (node : declared.Node.Node) → i < length nodes → node ≡ get_or nodes i node
    → greatest_node_priority (nodes_of (drop i nodes)) ≡ max node.priority (greatest_node_priority (nodes_of (drop (i + 1) nodes)))
next_greatest nodes i node below at =
    let first : greatest_node_priority (nodes_of (drop i nodes)) ≡ max (get_or nodes i node).priority (greatest_node_priority (nodes_of (drop (i + 1) nodes))) = rw
    (drop-cons nodes i node below, add-one i) refl in
    first ∙ ap (λ (x : declared.Node.Node). max x.priority (greatest_node_priority (nodes_of (drop (i + 1) nodes)))) (sym at)

pub none_greatest : (nodes : List declared.Node.Node) (i : ℕ) → length nodes ≤ i → greatest_node_priority (nodes_of (drop i nodes)) ≡ 0
none_greatest nodes i past = ap (λ l. greatest_node_priority (nodes_of l)) (drop_of_length-le nodes past)
