-- The priorities of an arena, and the vertices and priorities of a dual game.
use Rattle.game.proofs.Common.{◌≡◌, ◌==◌, ◌+◌, ◌*◌, ◌≤◌, ℕ, zero, suc, List, [], ◌∷◌, Some, length, map, cond, refl, sym, ap, ◌∙◌}
use Rattle.game.proofs.Common.{arith, inl, inr, count_by, option_map, slice_get-map, eq-eqb, ne_eqb, eqb_tells, range_with_len, Node, System, Vertex, Game}
use Rattle.game.proofs.Common.{vertex, count, vertex_of, rows, arena, Even, IsGame}
use Rattle.std.specs.Prelude.{max}
use Rattle.std.proofs.lemmas.List.FromFn.{length-range_with_len}
use Rattle.std.proofs.lemmas.List.Sums.{sum_by-append, sum_by-cons}
use Rattle.game.specs.Game.{dual, greatest, greatest_of}
use Rattle.game.specs.Lent.{turned}
use Rattle.game.proofs.Arenas.{greatest_append}
use Rattle.game.proofs.Duals.{dual_game}

-- ---- arenas

-- the greatest priority of the nodes, and 0 where there is none
abbrev pub top_of : List Node → ℕ
top_of [] = 0
top_of (node ∷ nodes) = max node.priority (top_of nodes)

state_greatest : (l : System) (n s : ℕ) (nodes : List Node) → greatest_of (map (vertex_of l n s) nodes) ≡ top_of nodes
state_greatest l n s [] = refl
state_greatest l n s (node ∷ nodes) = ap (λ k. max node.priority k) (state_greatest l n s nodes)

rows_greatest : (l : System) (nodes : List Node) (s : ℕ) (states : List ℕ) → greatest_of (rows l nodes (s ∷ states)) ≡ top_of nodes
rows_greatest l nodes s [] =
    let first = state_greatest l (length nodes) s nodes in
    let both = greatest_append (map (vertex_of l (length nodes) s) nodes) [] in
    omega arith
rows_greatest l nodes s (t ∷ states) =
    let first = state_greatest l (length nodes) s nodes in
    let rest = rows_greatest l nodes t states in
    let both = greatest_append (map (vertex_of l (length nodes) s) nodes) (rows l nodes (t ∷ states)) in
    omega arith

pub greatest_arena : (l : System) (nodes : List Node) → 1 ≤ l.states → greatest (arena l nodes) ≡ max 1 (top_of nodes)
greatest_arena l nodes some = let e = by l.states some in omega arith
  where
    by : (n : ℕ) → 1 ≤ n → greatest_of (rows l nodes (range_with_len 0 n)) ≡ top_of nodes
    by zero h = absurd (omega arith)
    by (suc n) h = rows_greatest l nodes 0 (range_with_len 1 n)

module _ (p : ℕ) where
  abbrev counted_nodes : List Node → ℕ
  counted_nodes nodes = count_by (λ (node : Node). node.priority == p) nodes

  abbrev counted : List Vertex → ℕ
  counted vs = count_by (λ (v : Vertex). v.priority == p) vs

  more : (x : Vertex) (vs : List Vertex) → counted (x ∷ vs) ≡ cond {A = ℕ} (x.priority == p) 1 0 + counted vs
  more x vs = sum_by-cons (λ (v : Vertex). cond {A = ℕ} (v.priority == p) 1 0) x vs

  state_counted : (l : System) (n s : ℕ) (nodes : List Node) → counted (map (vertex_of l n s) nodes) ≡ counted_nodes nodes
  state_counted l n s [] = refl
  state_counted l n s (node ∷ nodes) =
      let first = more (vertex_of l n s node) (map (vertex_of l n s) nodes) in
      let other = sum_by-cons (λ (x : Node). cond {A = ℕ} (x.priority == p) 1 0) node nodes in
      first ∙ (ap (λ k. cond {A = ℕ} (node.priority == p) 1 0 + k) (state_counted l n s nodes) ∙ sym other)

  rows_counted : (l : System) (nodes : List Node) (states : List ℕ) → counted (rows l nodes states) ≡ length states * counted_nodes nodes
  rows_counted l nodes [] = omega arith
  rows_counted l nodes (s ∷ states) =
      let both = sum_by-append (λ (v : Vertex). cond {A = ℕ} (v.priority == p) 1 0) (map (vertex_of l (length nodes) s) nodes) (rows l nodes states) in
      omega (arith, both, state_counted l (length nodes) s nodes, rows_counted l nodes states)

-- each state has a vertex for each node
pub count_arena : (l : System) (nodes : List Node) (p : ℕ) → l.states * count_by (λ (node : Node). node.priority == p) nodes ≤ count (arena l nodes) p
count_arena l nodes p =
    let vs = rows l nodes (range_with_len 0 l.states) in
    let second : Vertex = record { owner = Even; priority = 1; successors = 1 ∷ [] } in
    let all = rows_counted p l nodes (range_with_len 0 l.states) ∙ ap (λ n. n * counted_nodes p nodes) (length-range_with_len 0 l.states) in
    omega (arith, more p (record { owner = Even; priority = 0; successors = 0 ∷ [] }) (second ∷ vs), more p second vs, all)

-- ---- dual games

pub dual_is_game : (g : Game) → IsGame g → greatest g ≤ 31 → IsGame (dual g)
dual_is_game g game low = dual_game g game low

pub vertex_dual : (g : Game) (v : ℕ) (x : Vertex) → vertex g v ≡ Some x → vertex (dual g) v ≡ Some (turned x)
vertex_dual g v x at = slice_get-map turned g.vertices v ∙ ap (option_map turned) at

greatest_turned : (x : Vertex) (xs : List Vertex) → greatest_of (map turned (x ∷ xs)) ≡ greatest_of (x ∷ xs) + 1
greatest_turned x [] = omega arith
greatest_turned x (y ∷ ys) = let r = greatest_turned y ys in omega (arith, r)

pub greatest_dual : (g : Game) → 1 ≤ length g.vertices → greatest (dual g) ≡ greatest g + 1
greatest_dual g = by g.vertices
  where
    by : (vs : List Vertex) → 1 ≤ length vs → greatest_of (map turned vs) ≡ greatest_of vs + 1
    by [] h = absurd (omega arith)
    by (x ∷ xs) h = greatest_turned x xs

pub count_dual : (g : Game) (p : ℕ) → count (dual g) (p + 1) ≡ count g p
count_dual g p = by g.vertices
  where
    same : (a : ℕ) → (a + 1 == p + 1) ≡ (a == p)
    same a = elim (eqb_tells a p) [
      | inl w ↦ (let e = w.1 in eq-eqb (a + 1) (p + 1) (omega arith) ∙ sym w.0)
      | inr w ↦ ne_eqb (a + 1) (p + 1) (λ e. w.1 (omega (arith, e))) ∙ sym w.0
    ]

    by : (vs : List Vertex) → count_by (λ (v : Vertex). v.priority == p + 1) (map turned vs) ≡ count_by (λ (v : Vertex). v.priority == p) vs
    by [] = refl
    by (x ∷ xs) =
        more (p + 1) (turned x) (map turned xs)
        ∙ ((λ i. cond {A = ℕ} (same x.priority i) 1 0 + by xs i) ∙ sym (more p x xs))
