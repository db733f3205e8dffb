-- The vertices of an arena by their numbers, and what a sheet has for them.
use Rattle.std.proofs.Common.{◌≡◌, ℕ, zero, suc, mul-zero, ◌+◌, ◌*◌, ◌/◌, ◌%◌, ◌<◌, ◌≤◌, List, [], ◌∷◌, length, refl, sym, ap, subst, ◌∙◌, arith}
use Rattle.std.specs.Prelude.{Some, slice_get}
use Rattle.std.proofs.lemmas.List.Elements.{All-from_recursion}
use Rattle.std.proofs.lemmas.Option.{get_or_from_slice_get, slice_get_within}
use Rattle.std.proofs.lemmas.Nat.{div-add-mod', div-mul-add, div_below, mod-mul-add, mod_below, mul-add-lt}
use Rattle.systems.specs.System.{System}
use Rattle.calculus.specs.Form.{IsForm}
use Rattle.calculus.specs.Nodes.{Node}
use Rattle.game.specs.declared.player.Player.TheVariants.{Even}
use Rattle.game.specs.Game.{Game, IsVertex, Vertex, vertex}
use Rattle.game.specs.Arena.{arena, place, vertex_of}
use Rattle.game.proofs.Arenas.{arena_is_game, rows_count}
use Rattle.laws.proofs.Vertices.{node_in, vertex_is}
use Rattle.rankings.specs.Cells.{Cells, cell, number_in}
use Rattle.rankings.specs.Laws.{LeadsInside}

-- past both sinks
past_two : (c : Cells) (v m : ℕ) → v ≡ 2 + m → number_in c v ≡ cell c (m % length c.nodes) (m / length c.nodes)
past_two c zero m e = absurd (omega arith)
past_two c (suc zero) m e = absurd (omega arith)
past_two c (suc (suc n)) m e = let h : n ≡ m = omega arith in ap (λ i. cell c (i % length c.nodes) (i / length c.nodes)) h

-- the number of a state with a node
pub number_at : (c : Cells) (n s k : ℕ) → length c.nodes ≡ n → k < n → number_in c (place n s k) ≡ cell c k s
number_at c n s k e h =
    let col : (s * n + k) % length c.nodes ≡ k = ap (λ m. (s * n + k) % m) e ∙ mod-mul-add s n k h in
    let row : (s * n + k) / length c.nodes ≡ s = ap (λ m. (s * n + k) / m) e ∙ div-mul-add s n k h in
    past_two c (place n s k) (s * n + k) refl ∙ (λ i. cell c (col i) (row i))

-- successors are vertices
pub arena_closed : (l : System) (nodes : List Node) → IsForm nodes → 2 + l.states * length nodes ≤ 16777216 → LeadsInside (arena l nodes)
arena_closed l nodes form few v t x at there =
    let g : Game = arena l nodes in
    let is : IsVertex (length g.vertices) x = subst (IsVertex (length g.vertices)) (get_or_from_slice_get g.vertices v x x at)
    (All-from_recursion (IsVertex (length g.vertices)) g.vertices (arena_is_game l nodes form few).vertices v x (slice_get_within g.vertices v x at)) in
    subst (λ u. u < length g.vertices) there.2
    (All-from_recursion (λ u. u < length g.vertices) x.successors is.within there.0 t there.1)

-- how many vertices there are
pub arena_long : (l : System) (nodes : List Node) → length (arena l nodes).vertices ≡ 2 + l.states * length nodes
arena_long l nodes = let r = rows_count l nodes l.states in omega arith

-- the vertex of a state with a node is one
pub place_below : (l : System) (nodes : List Node) (s k : ℕ) → s < l.states → k < length nodes → place (length nodes) s k < length (arena l nodes).vertices
place_below l nodes s k h i = let e = arena_long l nodes in let m = mul-add-lt s (length nodes) k l.states h i in omega (arith, e, m)

some_same : {X : Type 0} (x y : X) → Some x ≡ Some y → x ≡ y
some_same x y e = cc

-- what holds of both sinks and of each state with each node holds of each vertex
pub each_vertex : (l : System) (nodes : List Node) (P : ℕ → Vertex → Type 0)
    → P 0 (record { owner = Even; priority = 0; successors = 0 ∷ [] })
    → P 1 (record { owner = Even; priority = 1; successors = 1 ∷ [] })
    → ((s k : ℕ) (node : Node) → s < l.states → slice_get nodes k ≡ Some node → k < length nodes
    → P (place (length nodes) s k) (vertex_of l (length nodes) s node))
    → (v : ℕ) (x : Vertex) → vertex (arena l nodes) v ≡ Some x → P v x
each_vertex l nodes P first second others zero x e = subst (P 0) (some_same (record { owner = Even; priority = 0; successors = 0 ∷ [] }) x e) first
each_vertex l nodes P first second others (suc zero) x e = subst (P 1) (some_same (record { owner = Even; priority = 1; successors = 1 ∷ [] }) x e) second
each_vertex l nodes P first second others (suc (suc m)) x e =
    let n : ℕ = length nodes in
    let inside : suc (suc m) < length (arena l nodes).vertices = slice_get_within (arena l nodes).vertices (suc (suc m)) x e in
    let within : m < l.states * n = (let q = arena_long l nodes in omega (arith, q, inside)) in
    let some : 0 < n = positive l.states n m within in
    let s : ℕ = m / n in
    let k : ℕ = m % n in
    let below : s < l.states = div_below m n l.states some within in
    let low : k < n = mod_below m n some in
    let node = node_in nodes k low in
    let at : place n s k ≡ suc (suc m) = (let q = div-add-mod' m n in omega (arith, q)) in
    let is = vertex_is l nodes s k node.0 below node.1 in
    let same : vertex_of l n s node.0 ≡ x = some_same (vertex_of l n s node.0) x (sym is ∙ (ap (vertex (arena l nodes)) at ∙ e)) in
    subst (P (suc (suc m))) same (subst (λ v. P v (vertex_of l n s node.0)) at (others s k node.0 below node.1 low))
  where
    positive : (a b m : ℕ) → m < a * b → 0 < b
    positive a zero m h = (let z = mul-zero a in absurd (omega (arith, z, h)))
    positive a (suc b) m h = omega arith
