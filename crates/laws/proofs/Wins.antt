-- Even wins where the nodes' sets hold.
use Rattle.std.proofs.Common.{◌≡◌, ℕ, ◌+◌, ◌<◌, ◌≤◌, ◌⊎◌, Bool, true, ◌&&◌, ◌||◌, List, [], ◌∷◌, length, refl, sym, ap, ap₂, ◌∙◌, subst, inl, inr, arith}
use Rattle.std.specs.Prelude.{Contains, Option, Some, ◌*◌, ◌/◌, ◌%◌, ◌-◌, ◌≢◌, max, IsTrue, nat_le, nat_lt, ◌==◌, if◌then◌else◌}
use Rattle.std.proofs.lemmas.Nat.{div-add-mod', div-mul-add}
use Rattle.std.proofs.lemmas.Bool.{lt-ltb, ltb-true, eqb-true}
use Rattle.std.proofs.lemmas.Bool.Decides.{eqb_tells}
use Rattle.std.proofs.lemmas.Option.{slice_get_within}
use Rattle.systems.specs.System.{System}
use Rattle.systems.specs.Path.{IsPath}
use Rattle.calculus.specs.Meaning.{no_sets}
use Rattle.calculus.specs.NormalTree.{Norm, size, Shape}
use Rattle.calculus.specs.Nodes.{Node}
use Rattle.game.specs.declared.player.Player.TheVariants.{Even}
use Rattle.game.specs.Game.{Vertex, vertex, Game}
use Rattle.game.specs.Arena.{place, arena, owner_of, successors_of, vertex_of}
use Rattle.game.specs.Wins.{Edge, IsStrategy, greatest_met, priority_at}
use Rattle.calculus.proofs.Sizes.{size_some}
use Rattle.laws.specs.Admissible.{IsNodes, priority_in}
use Rattle.laws.specs.Laws.{MeaningWins}
use Rattle.laws.proofs.Flags.{both, and_true, either, or_right, if_false, le_true, true_le}
use Rattle.laws.proofs.Sat.{sets, nothing}
use Rattle.laws.proofs.Trees.{IsWithin, Binds, from_free}
use Rattle.laws.proofs.Moves.{choose, IsNext, Moves, IsChoice, moves_below, stay}
use Rattle.laws.proofs.Closed.{closed, choices}
use Rattle.laws.proofs.Paths.{path_into, met}
use Rattle.laws.proofs.Cycles.{IsMove, cycles}
use Rattle.laws.proofs.Vertices.{shape_in, node_in, laid, count_nodes, vertex_is}
use Rattle.laws.proofs.Edges.{to_vertex, own_of, IsLed, led}
use Rattle.laws.proofs.Spelled.{node_within, sets_mean}

-- the state of a vertex
abbrev pub st : ℕ → ℕ → ℕ
st n u = (u - 2) / n

-- the node of a vertex
abbrev pub nd : ℕ → ℕ → ℕ
nd n u = (u - 2) % n

place_of : (n u : ℕ) → 2 ≤ u → u ≡ place n (st n u) (nd n u)
place_of n u h = let q = div-add-mod' (u - 2) n in omega arith

st_place : (n s k : ℕ) → k < n → st n (place n s k) ≡ s
st_place n s k h = let e : place n s k - 2 ≡ s * n + k = omega arith in ap (λ x. x / n) e ∙ div-mul-add s n k h

nd_place : (n s k : ℕ) → k < n → nd n (place n s k) ≡ k
nd_place n s k h =
    let e : place n s k - 2 ≡ s * n + k = omega arith in
    let q = div-add-mod' (s * n + k) n in
    let r = ap (λ x. x * n) (div-mul-add s n k h) in
    let w : (s * n + k) % n ≡ k = omega arith in
    ap (λ x. x % n) e ∙ w

is_zero : (u : ℕ) → (u == 0) ≡ true → u ≡ 0
is_zero u h = eqb-true u 0 h

-- away from a part that no step leaves, on the way to a place outside of it
outside : (Z : ℕ → Type 0) (R : ℕ → ℕ → Type 0) → ((v w : ℕ) → Z v → R v w → Z w) → (u : ℕ) (vs : List ℕ) (t : ℕ) → (Z t → ⊥) → IsPath R u vs t
    → IsPath (λ v w. R v w × (Z w → ⊥)) u vs t
outside Z R stays u [] t h e = e
outside Z R stays u (m ∷ vs) t h p = ((p.0, λ z. h (path_into Z R R (λ v w y x. (stays v w y x, x)) m vs t z p.1).1), outside Z R stays m vs t h p.1)

some_same : (v w : Vertex) (o : Option Vertex) → o ≡ Some v → o ≡ Some w → v ≡ w
some_same v w o e d = cc

module _ (l : System) (f : Norm) (nodes : List Node) (ok : IsNodes f nodes) where
  abbrev n : ℕ
  n = length nodes

  abbrev g : Game
  g = arena l nodes

  abbrev look : ℕ → Shape
  look = shape_in nodes

  abbrev prio : ℕ → ℕ
  prio = priority_in nodes

  abbrev chosen : ℕ → ℕ
  chosen u = choose l 0 f nothing (nd n u) (st n u)

  -- the state belongs to the set of the node
  abbrev Holds : ℕ → ℕ → Type 0
  Holds s k = sets l 0 f nothing k s ≡ true

  free : Binds (λ b. ⊥) 0 f
  free = from_free (λ b. ⊥) 0 f ok.closed

  -- a state with a node, to whose set it belongs
  record IsSeat (u : ℕ) : Type 0 where
    two : 2 ≤ u
    state : st n u < l.states
    holds : Holds (st n u) (nd n u)

  abbrev set : ℕ → Bool
  set u = (u == 0) || (nat_le 2 u && (nat_lt (st n u) l.states && sets l 0 f nothing (nd n u) (st n u)))

  abbrev choice : ℕ → ℕ
  choice u = if u == 0 then 0 else to_vertex n (look (nd n u)) (chosen u) (st n u)

  many : n ≡ size f
  many = count_nodes f nodes ok

  some : 1 ≤ n
  some = let e = many in let h = size_some f in omega arith

  node_below : (u : ℕ) → nd n u < n
  node_below u = let h = some in omega arith

  within : (k : ℕ) → k < n → IsWithin 0 f k
  within k h = let e = many in record { from = omega arith; to = omega arith }

  in_set : (u : ℕ) → IsTrue (set u) → (u ≡ 0) ⊎ IsSeat u
  in_set u h =
      elim (either (u == 0) (nat_le 2 u && (nat_lt (st n u) l.states && sets l 0 f nothing (nd n u) (st n u))) h) [
        | inl e ↦ inl (is_zero u e)
        | inr e ↦ (
            let a = both (nat_le 2 u) (nat_lt (st n u) l.states && sets l 0 f nothing (nd n u) (st n u)) e in
            let b = both (nat_lt (st n u) l.states) (sets l 0 f nothing (nd n u) (st n u)) a.1 in
            inr (record { two = true_le 2 u a.0; state = ltb-true (st n u) l.states b.0; holds = b.1 }))
      ]

  set_in : (u : ℕ) → IsSeat u → IsTrue (set u)
  set_in u x = or_right (u == 0) (nat_le 2 u && (nat_lt (st n u) l.states && sets l 0 f nothing (nd n u) (st n u)))
      (and_true (nat_le 2 u) (nat_lt (st n u) l.states && sets l 0 f nothing (nd n u) (st n u)) (le_true 2 u x.two)
      (and_true (nat_lt (st n u) l.states) (sets l 0 f nothing (nd n u) (st n u)) (lt-ltb (st n u) l.states x.state) x.holds))

  zero_in : (u : ℕ) → u ≡ 0 → IsTrue (set u)
  zero_in u e = subst (λ x. IsTrue (set x)) (sym e) refl

  seat : (s k : ℕ) → s < l.states → k < n → Holds s k → IsSeat (place n s k)
  seat s k hs hk x = record {
    two = omega arith;
    state = subst (λ y. y < l.states) (sym (st_place n s k hk)) hs;
    holds = subst (λ y. Holds y (nd n (place n s k))) (sym (st_place n s k hk)) (subst (λ y. Holds s y) (sym (nd_place n s k hk)) x);
  }

  -- the vertex at a seat
  record IsAt (u : ℕ) : Type 0 where
    node : Node
    shape : look (nd n u) ≡ node.shape
    priority : prio (nd n u) ≡ node.priority
    vertex_at : vertex g u ≡ Some (vertex_of l n (st n u) node)

  at_seat : (u : ℕ) → IsSeat u → IsAt u
  at_seat u x =
      let k = node_in nodes (nd n u) (node_below u) in
      record { node = k.0; shape = k.2; priority = k.3; vertex_at = ap (vertex g) (place_of n u x.two) ∙ vertex_is l nodes (st n u) (nd n u) k.0 x.state k.1 }

  is_choice : (u : ℕ) → IsSeat u → IsChoice l (look (nd n u)) (chosen u) (st n u)
  is_choice u x = choices l look 0 f nothing (laid f nodes ok) (st n u) (nd n u) (within (nd n u) (node_below u)) x.holds

  choice_at : (u : ℕ) → IsSeat u → choice u ≡ to_vertex n (look (nd n u)) (chosen u) (st n u)
  choice_at u x = if_false (u == 0) 0 (to_vertex n (look (nd n u)) (chosen u) (st n u))
      (elim (eqb_tells u 0) [ inl e ↦ absurd (let q = e.1 in let t = x.two in omega arith) | inr e ↦ e.0 ])

  edge_at : (u t : ℕ) → IsSeat u → Edge Even g choice u t → (t ≡ 0) ⊎ IsLed l n (look (nd n u)) (chosen u) (st n u) t
  edge_at u t x (v, is, how) =
      let a = at_seat u x in
      let e = some_same v (vertex_of l n (st n u) a.node) (vertex g u) is a.vertex_at in
      let h : ((owner_of a.node.shape ≡ Even) × (t ≡ choice u)) ⊎ ((owner_of a.node.shape ≢ Even) × Contains (successors_of l n (st n u) a.node.shape) t) =
      subst (λ (y : Vertex). ((y.owner ≡ Even) × (t ≡ choice u)) ⊎ ((y.owner ≢ Even) × Contains y.successors t)) e how in
      let k : ((owner_of (look (nd n u)) ≡ Even) × (t ≡ choice u))
      ⊎ ((owner_of (look (nd n u)) ≢ Even) × Contains (successors_of l n (st n u) (look (nd n u))) t) =
      subst (λ y. ((owner_of y ≡ Even) × (t ≡ choice u)) ⊎ ((owner_of y ≢ Even) × Contains (successors_of l n (st n u) y) t)) (sym a.shape) h in
      led l n (look (nd n u)) (chosen u) (st n u) t (is_choice u x) (elim k [ inl o ↦ inl (o.0, o.1 ∙ choice_at u x) | inr o ↦ inr o ])

  abbrev Move : ℕ → ℕ → Type 0
  Move u t = IsMove l look prio (st n) (nd n) 0 f nothing u t

  move_at : (u t : ℕ) → IsSeat u → IsLed l n (look (nd n u)) (chosen u) (st n u) t → IsSeat t × Move u t
  move_at u t x y =
      let w = within (nd n u) (node_below u) in
      let to : IsWithin 0 f y.node = elim (stay look (λ b. ⊥) 0 f (laid f nodes ok) free (nd n u) y.node w y.next) [ inl a ↦ a | inr a ↦ absurd a ] in
      let below : y.node < n = let e = many in let h = to.to in omega arith in
      let state : y.state < l.states = moves_below l (look (nd n u)) (chosen u) (st n u) y.state y.node x.state y.moves in
      let there : Holds y.state y.node = closed l look (λ b. ⊥) 0 f nothing (laid f nodes ok) free (λ b z. absurd z) (st n u)
      (nd n u) y.state y.node w x.state x.holds
      (y.next, y.moves) in
      let s : st n t ≡ y.state = ap (st n) y.is ∙ st_place n y.state y.node below in
      let k : nd n t ≡ y.node = ap (nd n) y.is ∙ nd_place n y.state y.node below in
      let z : IsSeat t = subst IsSeat (sym y.is) (seat y.state y.node state below there) in (
        z,
        record {
          from = w;
          to = within (nd n t) (node_below t);
          state = x.state;
          state_to = z.state;
          here = x.holds;
          there = z.holds;
          step = (
            subst (λ b. IsNext (look (nd n u)) b) (sym k) y.next,
            subst (λ a. Moves l (look (nd n u)) (chosen u) (st n u) a (nd n t)) (sym s)
                (subst (λ b. Moves l (look (nd n u)) (chosen u) (st n u) y.state b) (sym k) y.moves),
          );
        },
      )

  zero_edge : (u t : ℕ) → u ≡ 0 → Edge Even g choice u t → t ≡ 0
  zero_edge u t e (v, is, inl o) = o.1 ∙ ap choice e
  zero_edge u t e (v, is, inr o) =
      let q : v ≡ record { owner = Even; priority = 0; successors = 0 ∷ [] } = some_same v (record { owner = Even; priority = 0; successors = 0 ∷ [] })
      (vertex g u) is
      (ap (vertex g) e) in
      absurd (o.0 (ap (λ (y : Vertex). y.owner) q))

  zeros : (u : ℕ) (vs : List ℕ) (t : ℕ) → u ≡ 0 → IsPath (Edge Even g choice) u vs t → greatest_met g vs ≡ 0
  zeros u [] t e p = refl
  zeros u (m ∷ vs) t e p =
      let z = zero_edge u m e p.0 in
      let a : priority_at (vertex g m) ≡ 0 = ap (λ x. priority_at (vertex g x)) z in
      let b = zeros m vs t z p.1 in
      omega arith

  met_same : (u : ℕ) (vs : List ℕ) (t : ℕ) → IsPath (λ v w. Move v w × IsSeat w) u vs t → greatest_met g vs ≡ met (λ v. prio (nd n v)) vs
  met_same u [] t p = refl
  met_same u (m ∷ vs) t p =
      let a = at_seat m p.0.1 in
      let e : priority_at (vertex g m) ≡ prio (nd n m) = ap priority_at a.vertex_at ∙ sym a.priority in
      ap₂ max e (met_same m vs t p.1)

  move_only : (u : ℕ) (vs : List ℕ) (t : ℕ) → IsPath (λ v w. Move v w × IsSeat w) u vs t → IsPath Move u vs t
  move_only u [] t p = p
  move_only u (m ∷ vs) t p = (p.0.0, move_only m vs t p.1)

  cycle : (u : ℕ) (vs : List ℕ) → IsTrue (set u) → vs ≢ [] → IsPath (Edge Even g choice) u vs u → greatest_met g vs % 2 ≡ 0
  cycle u [] h more p = absurd (more refl)
  cycle u (m ∷ vs) h more p =
      elim (in_set u h) as (λ _. greatest_met g (m ∷ vs) % 2 ≡ 0) [
        | inl e ↦ ap (λ x. x % 2) (zeros u (m ∷ vs) u e p)
        | inr x ↦ (
            let a = outside (λ v. v ≡ 0) (Edge Even g choice) (λ v w e y. zero_edge v w e y) u (m ∷ vs) u (λ e. let t = x.two in omega arith) p in
            let b = path_into IsSeat (λ v w. Edge Even g choice v w × (w ≡ 0 → ⊥)) (λ v w. Move v w × IsSeat w)
            (λ v w y z. elim (edge_at v w y z.0) [ inl e ↦ absurd (z.1 e) | inr d ↦ (let r = move_at v w y d in (r.0, (r.1, r.0))) ]) u (m ∷ vs) u x a in
            ap (λ x. x % 2) (met_same u (m ∷ vs) u b.0)
            ∙ cycles l look prio (st n) (nd n) (λ b. ⊥) 0 f nothing (laid f nodes ok) free (λ b z. absurd z) ok.admissible u m vs (move_only u (m ∷ vs) u b.0))
      ]

  strategy : IsStrategy Even g set choice
  strategy = record {
    inside = λ u h. elim (in_set u h) [
      | inl e ↦ omega arith
      | inr x ↦ (let a = at_seat u x in slice_get_within g.vertices u (vertex_of l n (st n u) a.node) a.vertex_at)
    ];
    own = λ u v h is o. elim (in_set u h) [
      | inl e ↦ (
          let q : v ≡ record { owner = Even; priority = 0; successors = 0 ∷ [] } = some_same v (record { owner = Even; priority = 0; successors = 0 ∷ [] })
          (vertex g u) is (ap (vertex g) e) in
          subst (λ (y : Vertex). Contains y.successors (choice u)) (sym q) (0, omega arith, sym (ap choice e)))
      | inr x ↦ (
          let a = at_seat u x in
          let q = some_same v (vertex_of l n (st n u) a.node) (vertex g u) is a.vertex_at in
          let w : owner_of (look (nd n u)) ≡ Even = ap owner_of a.shape ∙ (sym (ap (λ (y : Vertex). y.owner) q) ∙ o) in
          let c = own_of l n (look (nd n u)) (chosen u) (st n u) (is_choice u x) w in
          let d = subst (λ y. Contains (successors_of l n (st n u) y) (to_vertex n (look (nd n u)) (chosen u) (st n u))) a.shape c in
          subst (λ (y : Vertex). Contains y.successors (choice u)) (sym q)
          (subst (λ y. Contains (successors_of l n (st n u) a.node.shape) y) (sym (choice_at u x)) d))
    ];
    closed = λ u t h y. elim (in_set u h) [
      | inl e ↦ zero_in t (zero_edge u t e y)
      | inr x ↦ elim (edge_at u t x y) [ inl e ↦ zero_in t e | inr d ↦ set_in t (move_at u t x d).0 ]
    ];
    cycles = λ u vs h more p. cycle u vs h more p;
  }

-- at the meanings of the nodes
pub meaning_wins : MeaningWins
meaning_wins l f nodes system ok =
    let e = count_nodes f nodes ok in
    record {
      set = set l f nodes ok;
      choice = choice l f nodes ok;
      strategy = strategy l f nodes ok;
      has = λ s k h x.
          let i = node_within l 0 f no_sets k s x in
          let to = i.to in
          set_in l f nodes ok (place (length nodes) s k) (seat l f nodes ok s k h (omega arith) ((sets_mean l f system s k h (omega arith)).0 x));
      only = λ u h. elim (in_set l f nodes ok u h) [
        | inl z ↦ inl z
        | inr x ↦ (
            let b = node_below l f nodes ok u in
            inr (
              st (length nodes) u,
              nd (length nodes) u,
              x.state,
              place_of (length nodes) u x.two,
              (sets_mean l f system (st (length nodes) u) (nd (length nodes) u) x.state (omega arith)).1 x.holds,
            ))
      ];
    }
