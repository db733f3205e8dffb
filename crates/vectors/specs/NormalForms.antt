-- Worked examples of normal forms.
use Rattle.std.specs.Prelude.{◌≡◌, ℕ, zero, suc, ◌%◌, ◌==◌, if◌then◌else◌, true, false, [], ◌∷◌, bytes_eq, codes, refl}
use Rattle.std.specs.Fmt.{digits}
use Rattle.std.proofs.Common.{arith, lit<, lit≤}
use Rattle.calculus.specs.Tree.{Anything, Regular, Step, Then, Either, Star, Plus, Formula, True, False, Var, Not, And, Or, Dia, Box, Mu, Nu}
use Rattle.vectors.specs.Formulas.{often_a, plus_or_b, name_a, name_b}
use Rattle.calculus.specs.NormalTree.{normal_form, Shape, ConstantNode, JunctionNode, ModalityNode, FixpointNode, VariableNode, depth, size, chain, node_count}
use Rattle.calculus.specs.NormalTree.{modal_count, formula_from}
use Rattle.calculus.specs.Nodes.{nodes, Node, greatest_nested, greatest_node_priority}
use Rattle.calculus.specs.Rules.{nodes_with}
use Rattle.calculus.specs.declared.priorities.Priorities.TheVariants.{Dependent}
use Rattle.normal.specs.NormalText.{normal_text}
use Rattle.normal.specs.Refused.{HasRefusal}
use Rattle.normal.specs.declared.error.NormalError.TheVariants.{TooManyNodes, PriorityTooGreat}

abbrev node : Shape → ℕ → Node
node shape p = record { shape = shape; priority = p }

nodes_plus_or_b : nodes plus_or_b ≡ node (JunctionNode true 1 7) 0 ∷ node (ModalityNode true name_a 2) 0 ∷ node (FixpointNode true 3) 1 ∷ node
    (JunctionNode true 4 5) 0 ∷ node (ConstantNode true) 0
    ∷ node (ModalityNode true name_a 6) 0 ∷ node (VariableNode 2) 0 ∷ node (ModalityNode true name_b 8) 0 ∷ node (ConstantNode true) 0 ∷ []
nodes_plus_or_b = refl

nodes_often_a : nodes often_a ≡ node (FixpointNode false 1) 2 ∷ node (FixpointNode true 2) 1 ∷ node (JunctionNode true 3 5) 0 ∷ node
    (ModalityNode true name_a 4) 0 ∷ node (VariableNode 0) 0
    ∷ node (ModalityNode true name_b 6) 0 ∷ node (VariableNode 1) 0 ∷ []
nodes_often_a = refl

depth_often_a : (greatest_nested (normal_form often_a) ≡ 2) × (depth (normal_form often_a) ≡ 2)
depth_often_a = (refl, refl)

-- !(<a>true && mu X. [b]X)
abbrev negated : Formula
negated = Not (And (Dia (Step name_a) True) (Mu (codes "X") (Box (Step name_b) (Var (codes "X")))))

negated_nodes : nodes negated
    ≡ node (JunctionNode true 1 3) 0 ∷ node (ModalityNode false name_a 2) 0 ∷ node (ConstantNode false) 0 ∷ node (FixpointNode false 4) 0 ∷ node
    (ModalityNode true name_b 5) 0 ∷ node (VariableNode 3) 0 ∷ []
negated_nodes = refl

plus_or_b_text : normal_text (nodes plus_or_b) (depth (normal_form plus_or_b))
    ≡ codes "nodes 9 priority 1 depth 1\n0 or 0 1 7\n1 dia 0 2 a\n2 mu 1 3\n3 or 0 4 5\n4 true 0\n5 dia 0 6 a\n6 var 0 2\n7 dia 0 8 b\n8 true 0\n"
unfolding digits
plus_or_b_text = refl

negated_text : normal_text (nodes negated) (depth (normal_form negated))
    ≡ codes "nodes 6 priority 0 depth 1\n0 or 0 1 3\n1 box 0 2 a\n2 false 0\n3 nu 0 4\n4 dia 0 5 b\n5 var 0 3\n"
unfolding digits
negated_text = refl

-- the child's number stands before the action
action_last : bytes_eq (normal_text (nodes (Dia (Step name_a) True)) 0) (codes "nodes 2 priority 0 depth 0\n0 dia 0 a 1\n1 true 0\n") ≡ false
unfolding digits
action_last = refl

-- the nodes spell formulas without regular ones, each of whose binders is named by its number
spelled_often_a : formula_from 0 (normal_form often_a) ≡ Nu (codes "Z")
    (Mu (codes "Z_") (Or (Dia (Step name_a) (Var (codes "Z"))) (Dia (Step name_b) (Var (codes "Z_")))))
spelled_often_a = refl

spelled_plus_or_b : formula_from 0 (normal_form plus_or_b)
    ≡ Or (Dia (Step name_a) (Mu (codes "Z__") (Or True (Dia (Step name_a) (Var (codes "Z__")))))) (Dia (Step name_b) True)
spelled_plus_or_b = refl

-- and without negations: !(<a>true && mu X. [b]X)
spelled_negated : formula_from 0 (normal_form negated)
    ≡ Or (Box (Step name_a) False) (Nu (codes "Z___") (Dia (Step name_b) (Var (codes "Z___"))))
spelled_negated = refl

-- `<a+>true` has six: the step, the binder, its `||`, `true`, the step inside and the variable
counts : (node_count plus_or_b ≡ 9) × (modal_count (Plus (Step name_a)) 1 ≡ 6)
counts = (refl, refl)

-- nu, then mu: one binder from the first mu, two from the first nu
chains : (chain (normal_form often_a) true ≡ 1) × (chain (normal_form often_a) false ≡ 2)
chains = (refl, refl)

-- ten times (a+b), joined by `.`
abbrev tens : ℕ → Regular
tens zero = Either (Step name_a) (Step name_b)
tens (suc n) = Then (Either (Step name_a) (Step name_b)) (tens n)

abbrev many_nodes : Formula
many_nodes = Dia (Step name_a) (Dia (Step name_a) (Dia (Step name_a) (Dia (tens 9) True)))

count_many_nodes : node_count many_nodes ≡ 4096
count_many_nodes = refl

one_node_more : HasRefusal (Dia (Step name_a) many_nodes) TooManyNodes
one_node_more = omega arith

-- n binders in one another, the innermost `mu`, of alternating kinds
abbrev alternating : ℕ → Formula
alternating zero = True
alternating (suc n) = if n % 2 == 0 then Mu (codes "X") (alternating n) else Nu (codes "X") (alternating n)

greatest_alternating : (greatest_nested (normal_form (alternating 31)) ≡ 31) × (depth (normal_form (alternating 31)) ≡ 31)
greatest_alternating = (refl, refl)

one_binder_more : HasRefusal (alternating 32) PriorityTooGreat
one_binder_more = (lit≤ tt, lit< tt)

-- ---- dependent priorities

-- binders that don't depend on each other share a priority
no_binder_too_many : greatest_node_priority (nodes_with Dependent (alternating 32)) ≡ 1
no_binder_too_many = refl

-- in nu X. mu Y. (<a>X || <b>Y) the outer variable stands inside the inner binder
often_a_dependent : nodes_with Dependent often_a ≡ nodes often_a
often_a_dependent = refl

-- nu X. (<a>X && mu Y. <b>Y)
abbrev apart : Formula
apart = Nu (codes "X") (And (Dia (Step name_a) (Var (codes "X"))) (Mu (codes "Y") (Dia (Step name_b) (Var (codes "Y")))))

apart_nested : greatest_node_priority (nodes apart) ≡ 2
apart_nested = refl

apart_dependent : nodes_with Dependent apart
    ≡ node (FixpointNode false 1) 0 ∷ node (JunctionNode false 2 4) 0 ∷ node (ModalityNode true name_a 3) 0 ∷ node (VariableNode 0) 0
    ∷ node (FixpointNode true 5) 1 ∷ node (ModalityNode true name_b 6) 0 ∷ node (VariableNode 4) 0 ∷ []
apart_dependent = refl

-- [true*]<true*>(<a>true)
abbrev everywhere : Formula
everywhere = Box (Star (Step Anything)) (Dia (Star (Step Anything)) (Dia (Step name_a) True))

everywhere_is : (greatest_nested (normal_form everywhere) ≡ 2) × (size (normal_form everywhere) ≡ 10) × (depth (normal_form everywhere) ≡ 2)
everywhere_is = (refl, refl, refl)
