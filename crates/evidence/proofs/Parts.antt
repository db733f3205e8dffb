-- The arena of a part of a system goes on as that of the system does, where the part keeps the steps.
use Rattle.std.proofs.Common.{◌≡◌, ℕ, zero, suc, ◌+◌, ◌*◌, ◌<◌, ◌≤◌, ◌⊎◌, max, Bool, true, ◌&&◌, List, [], ◌∷◌, ◌++◌, length, map, refl, sym, ap, subst, ◌∙◌}
use Rattle.std.proofs.Common.{inl, inr, arith, IsTrue, Contains, Some, if◌then◌else◌}
use Rattle.std.specs.Prelude.{◌/◌, ◌%◌, ◌-◌, slice_get, ◌==◌}
use Rattle.std.specs.List.{range_with_len}
use Rattle.std.proofs.lemmas.Nat.{div-add-mod'}
use Rattle.std.proofs.Math.Nat.{div-lt_iff_lt-mul, mod-lt}
use Rattle.std.proofs.lemmas.Option.{slice_get_within}
use Rattle.systems.specs.System.{Arrow, System}
use Rattle.calculus.specs.Tree.{Action}
use Rattle.calculus.specs.Holds.{holds}
use Rattle.calculus.specs.NormalTree.{Shape, ConstantNode, JunctionNode, ModalityNode, FixpointNode, VariableNode}
use Rattle.calculus.specs.Nodes.{Node}
use Rattle.game.specs.declared.player.Player.TheVariants.{Even}
use Rattle.game.specs.Arena.{arena, is_step, or_else, place, rows, successors_of, targets, vertex_of}
use Rattle.game.specs.Game.{Game, Vertex, greatest, greatest_of, vertex}
use Rattle.game.specs.Wins.{WinsBy}
use Rattle.game.proofs.Arenas.{rows_count}
use Rattle.measures.proofs.Lists.{contains_none, contains_first}
use Rattle.measures.proofs.NotBoth.{not_both_win}
use Rattle.laws.proofs.Decided.{even_wins_formula}
use Rattle.laws.proofs.Edges.{in_or_else, of_or_else}
use Rattle.laws.proofs.Lists.{any_gives, filter_gives, gives_any, gives_filter, in_map, of_map, only_in}
use Rattle.laws.proofs.Vertices.{node_in, vertex_is}
use Rattle.evidence.specs.Evidence.{Evidence, entry_at}
use Rattle.evidence.specs.Witness.{IsClosedFor, IsPartOf, Keeps, KeepsStep, cut_to}
use Rattle.evidence.specs.Laws.{WitnessMeans, WitnessWins}
use Rattle.evidence.proofs.Cutting.{Follows, cut_evidence, cut_good, cut_in}
use Rattle.evidence.proofs.GoodWins.{entry_of, good_wins}
use Rattle.std.specs.Option.{is_some}

-- ------------------------------------------------------------------ priorities

-- the greatest priority doesn't come from the arrows
greatest_row : (l m : System) (n s : ℕ) (nodes : List Node) (xs ys : List Vertex) → greatest_of xs ≡ greatest_of ys
    → greatest_of (map (vertex_of l n s) nodes ++ xs) ≡ greatest_of (map (vertex_of m n s) nodes ++ ys)
greatest_row l m n s [] xs ys e = e
greatest_row l m n s (node ∷ nodes) xs ys e = ap (λ k. max node.priority k) (greatest_row l m n s nodes xs ys e)

greatest_rows : (l m : System) (nodes : List Node) (states : List ℕ) → greatest_of (rows l nodes states) ≡ greatest_of (rows m nodes states)
greatest_rows l m nodes [] = refl
greatest_rows l m nodes (s ∷ states) = greatest_row l m (length nodes) s nodes (rows l nodes states) (rows m nodes states) (greatest_rows l m nodes states)

greatest_same : (l m : System) (nodes : List Node) → m.states ≡ l.states → greatest (arena m nodes) ≡ greatest (arena l nodes)
greatest_same l m nodes e =
    ap (λ k. max 0 (max 1 k)) (greatest_rows m l nodes (range_with_len 0 m.states) ∙ ap (λ n. greatest_of (rows l nodes (range_with_len 0 n))) e)

arena_long : (l : System) (nodes : List Node) → length (arena l nodes).vertices ≡ 2 + l.states * length nodes
arena_long l nodes = let c = rows_count l nodes l.states in omega (arith, c)

-- ------------------------------------------------------------------ successors

module _ (l part : System) (is : IsPartOf l part) where
  step_of : (a : Action) (s t : ℕ) → is_step part a s t ≡ true → is_step l a s t ≡ true
  step_of a s t h =
      let w = any_gives (λ (arrow : Arrow). arrow.source == s && arrow.target == t && holds a arrow.label) part.arrows h in
      gives_any (λ (arrow : Arrow). arrow.source == s && arrow.target == t && holds a arrow.label) l.arrows w.0 (is.arrows w.0 w.1) w.2

  target_of : (a : Action) (s t : ℕ) → Contains (targets part a s) t → Contains (targets l a s) t
  target_of a s t c =
      let w = filter_gives (is_step part a s) (range_with_len 0 part.states) t c in
      gives_filter (is_step l a s) (range_with_len 0 l.states) t (subst (λ n. Contains (range_with_len 0 n) t) is.states w.0) (step_of a s t w.1)

  of_target : (a : Action) (s t : ℕ) → Contains (targets l a s) t → (is_step l a s t ≡ true → is_step part a s t ≡ true) → Contains (targets part a s) t
  of_target a s t c keeps =
      let w = filter_gives (is_step l a s) (range_with_len 0 l.states) t c in
      gives_filter (is_step part a s) (range_with_len 0 part.states) t (subst (λ n. Contains (range_with_len 0 n) t) (sym is.states) w.0) (keeps w.1)

  -- a list has one, or is empty
  some_or : (xs : List ℕ) → ((x : ℕ) × Contains xs x) ⊎ (xs ≡ [])
  some_or [] = inr refl
  some_or (x ∷ xs) = inl (x, contains_first x xs)

  else_only : (xs : List ℕ) (v : ℕ) → xs ≡ [] → Contains (or_else xs v) v
  else_only xs v e = subst (λ ys. Contains (or_else ys v) v) (sym e) (contains_first v [])

  map_empty : (f : ℕ → ℕ) (xs : List ℕ) → xs ≡ [] → map f xs ≡ []
  map_empty f xs e = ap (map f) e

  -- no target of the part where l has none
  none_of : (a : Action) (s : ℕ) → targets l a s ≡ [] → targets part a s ≡ []
  none_of a s e = elim (some_or (targets part a s)) [
    | inl w ↦ absurd (contains_none w.0 (subst (λ xs. Contains xs w.0) e (target_of a s w.0 w.1)))
    | inr q ↦ q
  ]

  -- where the steps to u are kept, u stays a successor
  pub still : (n s : ℕ) (sh : Shape) (u : ℕ) → Contains (successors_of l n s sh) u → KeepsStep l part n s sh u → Contains (successors_of part n s sh) u
  still n s (ConstantNode flag) u c k = c
  still n s (JunctionNode flag a b) u c k = c
  still n s (ModalityNode flag a child) u c k = elim (some_or (targets l a s)) [
    | inl w ↦ elim (of_else (targets l a s) w.0 w.1 c) [
      | inl m ↦ (
          let o = of_map (λ t. place n t child) (targets l a s) u m in
          let p = of_target a s o.0 o.1 (λ h. k o.0 (sym o.2) h) in
          in_or_else (map (λ t. place n t child) (targets part a s)) (if flag then 1 else 0) u
          (subst (λ z. Contains (map (λ t. place n t child) (targets part a s)) z) o.2 (in_map (λ t. place n t child) (targets part a s) o.0 p)))
      | inr never ↦ absurd never
    ]
    | inr none ↦ (
        let q : u ≡ (if flag then 1 else 0) = only u (subst (λ xs. Contains (or_else (map (λ t. place n t child) xs) (if flag then 1 else 0)) u) none c) in
        subst (λ z. Contains (or_else (map (λ t. place n t child) (targets part a s)) (if flag then 1 else 0)) z) (sym q)
        (else_only (map (λ t. place n t child) (targets part a s)) (if flag then 1 else 0)
        (map_empty (λ t. place n t child) (targets part a s) (none_of a s none))))
  ]
    where
      only : (u : ℕ) → Contains ((if flag then 1 else 0) ∷ []) u → u ≡ (if flag then 1 else 0)
      only u c = only_in (if flag then 1 else 0) u c

      of_else : (xs : List ℕ) (x : ℕ) → Contains xs x → Contains (or_else (map (λ t. place n t child) xs) (if flag then 1 else 0)) u
          → Contains (map (λ t. place n t child) xs) u ⊎ ⊥
      of_else [] x i c = absurd (contains_none x i)
      of_else (y ∷ xs) x i c = inl c
  still n s (FixpointNode flag a) u c k = c
  still n s (VariableNode b) u c k = c

  -- where all steps are kept, the part has no other successors
  pub no_other : (n s : ℕ) (sh : Shape) → ((u : ℕ) → Contains (successors_of l n s sh) u → KeepsStep l part n s sh u) → (u : ℕ)
      → Contains (successors_of part n s sh) u → Contains (successors_of l n s sh) u
  no_other n s (ConstantNode flag) k u c = c
  no_other n s (JunctionNode flag a b) k u c = c
  no_other n s (ModalityNode flag a child) k u c = elim (of_or_else (map (λ t. place n t child) (targets part a s)) (if flag then 1 else 0) u c) [
    | inl e ↦ elim (some_or (targets l a s)) [
      | inl w ↦ (
          let keeps = k (place n w.0 child) (in_or_else (map (λ t. place n t child) (targets l a s)) (if flag then 1 else 0) (place n w.0 child)
          (in_map (λ t. place n t child) (targets l a s) w.0 w.1)) in
          let p = of_target a s w.0 w.1 (λ h. keeps w.0 refl h) in
          let i = in_map (λ t. place n t child) (targets part a s) w.0 p in
          carried (kept_here (map (λ t. place n t child) (targets part a s)) (place n w.0 child) i c))
      | inr none ↦ subst (λ z. Contains (or_else (map (λ t. place n t child) (targets l a s)) (if flag then 1 else 0)) z) (sym e)
          (else_only (map (λ t. place n t child) (targets l a s)) (if flag then 1 else 0) (map_empty (λ t. place n t child) (targets l a s) none))
    ]
    | inr m ↦ carried m
  ]
    where
      carried : Contains (map (λ t. place n t child) (targets part a s)) u
          → Contains (or_else (map (λ t. place n t child) (targets l a s)) (if flag then 1 else 0)) u
      carried m =
          let o = of_map (λ t. place n t child) (targets part a s) u m in
          in_or_else (map (λ t. place n t child) (targets l a s)) (if flag then 1 else 0) u
          (subst (λ z. Contains (map (λ t. place n t child) (targets l a s)) z) o.2 (in_map (λ t. place n t child) (targets l a s) o.0 (target_of a s o.0 o.1)))

      kept_here : (xs : List ℕ) (x : ℕ) → Contains xs x → Contains (or_else xs (if flag then 1 else 0)) u → Contains xs u
      kept_here [] x i c = absurd (contains_none x i)
      kept_here (y ∷ xs) x i c = c
  no_other n s (FixpointNode flag a) k u c = c
  no_other n s (VariableNode b) k u c = c

-- ------------------------------------------------------------------ vertices

-- a vertex of an arena is a sink, or a state with a node
pub record IsSeat (states n u : ℕ) : Type 0 where
  pub state : ℕ
  pub node : ℕ
  pub below : state < states
  pub few : node < n
  pub is : u ≡ place n state node

some_nodes : (states n : ℕ) → 0 < states * n → 0 < n
some_nodes states zero h = let z : states * 0 ≡ 0 = omega arith in absurd (omega arith)
some_nodes states (suc n) h = omega arith

pub seat_of : (states n u : ℕ) → 2 ≤ u → u < 2 + states * n → IsSeat states n u
seat_of states n u two h =
    let q = div-add-mod' (u - 2) n in
    let p : 0 < n = some_nodes states n (omega arith) in
    let l : u - 2 < states * n = omega arith in
    record { state = (u - 2) / n; node = (u - 2) % n; below = (div-lt_iff_lt-mul p).1 l; few = mod-lt (u - 2) p; is = omega (arith, q) }

some_same : (a b : Vertex) → Some a ≡ Some b → a ≡ b
some_same a b q = cc

-- a sink of both arenas
follows_itself : (g : Game) (e : Evidence) (u : ℕ) (v y : Vertex) → vertex g u ≡ Some v → Some v ≡ Some y → Follows g e u y
follows_itself g e u v y at there =
    subst (λ z. Follows g e u z) (some_same v y there) (record { first = v; at = at; owner = refl; priority = refl; own = λ t go c. c; others = λ not t c. c })

module _ (l part : System) (nodes : List Node) (e : Evidence) (set : ℕ → Bool) (is : IsPartOf l part) (keeps : Keeps l part nodes e set)
    (closed : IsClosedFor (arena l nodes) e set) where
  abbrev n : ℕ
  n = length nodes

  at_place : (s k : ℕ) (node : Node) (y : Vertex) → s < l.states → slice_get nodes k ≡ Some node → IsTrue (set (place n s k))
      → vertex (arena part nodes) (place n s k) ≡ Some y
      → Follows (arena l nodes) e (place n s k) y
  at_place s k node y h at i there =
      let first = vertex_is l nodes s k node h at in
      let other = vertex_is part nodes s k node (subst (λ m. s < m) (sym is.states) h) at in
      let x = entry_of (entry_at e (place n s k)) (closed.inside (place n s k) i) in
      subst (λ z. Follows (arena l nodes) e (place n s k) z) (some_same (vertex_of part n s node) y (sym other ∙ there)) (record {
        first = vertex_of l n s node;
        at = first;
        owner = refl;
        priority = refl;
        own = λ t go c. still l part is n s node.shape t c (keeps s k node t h at i go);
        others = λ not t c. no_other l part is n s node.shape (λ u d. keeps s k node u h at i (x.0, vertex_of l n s node, x.1, first, inr (not, d))) t c;
      })

  follows : (u : ℕ) (y : Vertex) → IsTrue (set u) → vertex (arena part nodes) u ≡ Some y → Follows (arena l nodes) e u y
  follows zero y i there = follows_itself (arena l nodes) e 0 (record { owner = Even; priority = 0; successors = 0 ∷ [] }) y refl there
  follows (suc zero) y i there = follows_itself (arena l nodes) e 1 (record { owner = Even; priority = 1; successors = 1 ∷ [] }) y refl there
  follows (suc (suc u)) y i there =
      let h = slice_get_within (arena part nodes).vertices (suc (suc u)) y there in
      let states = is.states in
      let h2 : suc (suc u) < 2 + l.states * n = subst (λ m. suc (suc u) < 2 + m * n) states (subst (λ m. suc (suc u) < m) (arena_long part nodes) h) in
      let w = seat_of l.states n (suc (suc u)) (omega arith) h2 in
      let k = node_in nodes w.node w.few in
      subst (λ v. Follows (arena l nodes) e v y) (sym w.is)
      (at_place w.state w.node k.0 y w.below k.1 (subst (λ v. IsTrue (set v)) w.is i) (subst (λ v. vertex (arena part nodes) v ≡ Some y) w.is there))

pub witness_wins : WitnessWins
witness_wins l part nodes e set is evidence good closed keeps = (
  cut_evidence (arena l nodes) (arena part nodes) e set evidence good closed top long follow,
  cut_good (arena l nodes) (arena part nodes) e set evidence good closed top long follow,
  λ v h. good_wins (arena part nodes) (cut_to set e)
      (cut_evidence (arena l nodes) (arena part nodes) e set evidence good closed top long follow)
      (cut_good (arena l nodes) (arena part nodes) e set evidence good closed top long follow)
      v (subst (λ o. IsTrue (is_some o)) (sym (cut_in set e v h)) (closed.inside v h)),
)
  where
    top : greatest (arena part nodes) ≡ greatest (arena l nodes)
    top = greatest_same l part nodes is.states

    long : length (arena part nodes).vertices ≡ length (arena l nodes).vertices
    long = arena_long part nodes ∙ (ap (λ m. 2 + m * length nodes) is.states ∙ sym (arena_long l nodes))

    follow : (u : ℕ) (y : Vertex) → IsTrue (set u) → vertex (arena part nodes) u ≡ Some y → Follows (arena l nodes) e u y
    follow = follows l part nodes e set is keeps closed

-- at the root of a formula's normal form the part says of the formula what the player wants
pub witness_means : WitnessMeans
witness_means l part f nodes e set is evidence good closed keeps root system admitted forms = (
  (λ even. (even_wins_formula part f nodes system admitted forms l.initial below).0
      (subst (λ p. WinsBy p (arena part nodes) (place (length nodes) l.initial 0)) even wins)),
  (λ odd holds. not_both_win (arena part nodes) (place (length nodes) l.initial 0)
      ((even_wins_formula part f nodes system admitted forms l.initial below).1 holds)
      (subst (λ p. WinsBy p (arena part nodes) (place (length nodes) l.initial 0)) odd wins)),
)
  where
    wins : WinsBy e.player (arena part nodes) (place (length nodes) l.initial 0)
    wins = (witness_wins l part nodes e set is evidence good closed keeps).2 (place (length nodes) l.initial 0) root

    below : l.initial < part.states
    below = subst (λ s. s < part.states) is.initial system.initial
