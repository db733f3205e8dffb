-- The vertices of an arena: each state with each node.
use Rattle.std.proofs.Common.{◌≡◌, ℕ, zero, suc, ◌+◌, ◌<◌, true, List, [], ◌∷◌, length, map, refl, sym, ap, ◌∙◌, arith}
use Rattle.std.specs.Prelude.{slice_get, Option, Some, None, ◌*◌}
use Rattle.std.specs.List.{range_with_len}
use Rattle.std.proofs.lemmas.List.{length-map}
use Rattle.systems.specs.System.{System}
use Rattle.calculus.specs.NormalTree.{Norm, size, Shape, ConstantNode, shape_at}
use Rattle.calculus.specs.Nodes.{Node}
use Rattle.game.specs.declared.player.Player.TheVariants.{Even}
use Rattle.game.specs.Game.{vertex}
use Rattle.game.specs.Arena.{place, vertex_of, rows, arena}
use Rattle.calculus.proofs.Sizes.{preorder_length}
use Rattle.laws.specs.Admissible.{IsEach, IsNodes, priority_in, shapes_of}
use Rattle.laws.proofs.Lists.{get_left, get_right, get_map, map_get, get_range}
use Rattle.laws.proofs.Trees.{each_map, IsSaid, said}
use Rattle.laws.proofs.Moves.{IsLaid}

-- ---- nodes by number

-- the shape of a node, if there is one
abbrev pub shape_or : Option Node → Shape
shape_or None = ConstantNode true
shape_or (Some node) = node.shape

-- the shape of the node of this number
abbrev pub shape_in : List Node → ℕ → Shape
shape_in nodes k = shape_or (slice_get nodes k)

-- the part's node stands at the part's number
abbrev pub IsPlaced : List Node → ℕ → Norm → Type 0
IsPlaced nodes k g = slice_get nodes k ≡ Some (record { shape = shape_at k g; priority = priority_in nodes k })

-- each number has its node
pub node_in : (nodes : List Node) (k : ℕ) → k < length nodes → (node : Node) × (slice_get nodes k ≡ Some node) × (shape_in nodes k ≡ node.shape)
    × (priority_in nodes k ≡ node.priority)
node_in [] k h = absurd (omega arith)
node_in (n ∷ nodes) zero h = (n, refl, refl, refl)
node_in (n ∷ nodes) (suc k) h = node_in nodes k (omega arith)

known : (nodes : List Node) (k : ℕ) (node : Node) (shape : Shape) → slice_get nodes k ≡ Some node → node.shape ≡ shape
    → slice_get nodes k ≡ Some (record { shape = shape; priority = priority_in nodes k })
known [] k node shape e d = cc
known (n ∷ nodes) zero node shape e d = let q : n ≡ node = cc in let r : n.shape ≡ shape = ap (λ (x : Node). x.shape) q
    ∙ d in λ i. Some (record { shape = r i; priority = n.priority })
known (n ∷ nodes) (suc k) node shape e d = known nodes k node shape e d

-- each part's node stands at its number
pub placed : (f : Norm) (nodes : List Node) → IsNodes f nodes → IsEach (IsPlaced nodes) 0 f
placed f nodes is = each_map (IsSaid shape_at (shapes_of nodes)) (IsPlaced nodes) 0 f
    (λ k g e. let w = map_get (λ (node : Node). node.shape) nodes k (shape_at k g) e in known nodes k w.0 (shape_at k g) w.1 w.2)
    (said shape_at (shapes_of nodes) f is.shapes)

-- with its shape
pub laid : (f : Norm) (nodes : List Node) → IsNodes f nodes → IsLaid (shape_in nodes) 0 f
laid f nodes is = each_map (IsPlaced nodes) (λ k g. shape_in nodes k ≡ shape_at k g) 0 f (λ k g e. ap shape_or e) (placed f nodes is)

-- as many nodes as the tree has
pub count_nodes : (f : Norm) (nodes : List Node) → IsNodes f nodes → length nodes ≡ size f
count_nodes f nodes is = sym (length-map nodes (λ (node : Node). node.shape)) ∙ (ap length is.shapes ∙ preorder_length shape_at 0 f)

-- ---- vertices

get_row : (l : System) (nodes : List Node) (states : List ℕ) (i j s k : ℕ) (node : Node) → slice_get states i ≡ Some s → slice_get nodes k ≡ Some node
    → j ≡ i * length nodes + k
    → slice_get (rows l nodes states) j ≡ Some (vertex_of l (length nodes) s node)
get_row l nodes [] i j s k node e d h = cc
get_row l nodes (x ∷ states) zero j s k node e d h =
    let q : x ≡ s = cc in
    let r : j ≡ k = omega arith in
    ap (slice_get (rows l nodes (x ∷ states))) r
    ∙ (get_left (map (vertex_of l (length nodes) x) nodes) (rows l nodes states) k (vertex_of l (length nodes) x node)
    (get_map (vertex_of l (length nodes) x) nodes k node d)
    ∙ ap (λ z. Some (vertex_of l (length nodes) z node)) q)
get_row l nodes (x ∷ states) (suc i) j s k node e d h =
    let n = length-map nodes (vertex_of l (length nodes) x) in
    get_right (map (vertex_of l (length nodes) x) nodes) (rows l nodes states) j (i * length nodes + k) (omega arith)
    ∙ get_row l nodes states i (i * length nodes + k) s k node e d refl

past_two : {A : Type 0} (x y : A) (xs : List A) (j k : ℕ) → j ≡ 2 + k → slice_get (x ∷ y ∷ xs) j ≡ slice_get xs k
past_two x y xs zero k e = absurd (omega arith)
past_two x y xs (suc zero) k e = absurd (omega arith)
past_two x y xs (suc (suc j)) k e = let h : j ≡ k = omega arith in ap (slice_get xs) h

-- the vertex of a state with a node
pub vertex_is : (l : System) (nodes : List Node) (s k : ℕ) (node : Node) → s < l.states → slice_get nodes k ≡ Some node
    → vertex (arena l nodes) (place (length nodes) s k) ≡ Some (vertex_of l (length nodes) s node)
vertex_is l nodes s k node h e =
    past_two (record { owner = Even; priority = 0; successors = 0 ∷ [] }) (record { owner = Even; priority = 1; successors = 1 ∷ [] })
    (rows l nodes (range_with_len 0 l.states)) (place (length nodes) s k) (s * length nodes + k) refl
    ∙ get_row l nodes (range_with_len 0 l.states) s (s * length nodes + k) s k node
    (let q : 0 + s ≡ s = omega arith in get_range 0 l.states s h ∙ ap Some q) e refl
