-- Each vertex is won by one of the players.
use Rattle.measures.proofs.Common.{◌≡◌, ◌≢◌, ℕ, zero, suc, ◌%◌, ◌<◌, ◌≤◌, ◌⊎◌, Bool, true, false, ◌&&◌, List, [], ◌∷◌, length, refl, sym, ap, subst, ◌∙◌, inl}
use Rattle.measures.proofs.Common.{inr, arith, true≢false, IsTrue, Contains, Some, None, Option, ◌==◌, nat_lt, eqb-true, eq-eqb, ltb-true, lt-ltb, eqb_tells}
use Rattle.measures.proofs.Common.{leb_tells, slice_get_within, IsPath, Player, Even, Odd, Vertex, Game, vertex, IsVertex, IsGame, opponent, Edge, IsOf}
use Rattle.measures.proofs.Common.{WinsBy, greatest_met, and_from, and_parts, total}
use Rattle.measures.proofs.Lists.{all_contained, all_got}
use Rattle.measures.proofs.Searches.{either_way, find_below, find_in}
use Rattle.measures.proofs.Rests.{total_same}
use Rattle.measures.proofs.Cycles.{last_met, priority}
use Rattle.measures.proofs.NotBoth.{path_weaker}

-- ------------------------------------------------------------------ players

some_same : (x y : Vertex) → Some x ≡ Some y → x ≡ y
some_same x y w = cc

some_player : (p q : Player) → Some p ≡ Some q → p ≡ q
some_player p q w = cc

same_player : (p q : Player) → (p ≡ q) ⊎ (p ≡ opponent q)
same_player Even Even = inl refl
same_player Even Odd = inr refl
same_player Odd Even = inr refl
same_player Odd Odd = inl refl

not_opponent : (p : Player) → p ≢ opponent p
not_opponent Even e = cc
not_opponent Odd e = cc

other_player : (p q : Player) → p ≢ q → p ≡ opponent q
other_player p q n = elim (same_player p q) [ inl e ↦ absurd (n e) | inr e ↦ e ]

decided : (o : Option Player) → (o ≡ None) ⊎ ((p : Player) × (o ≡ Some p))
decided None = inl refl
decided (Some p) = inr (p, refl)

is_decided : (o : Option Player) (q : Player) → (o ≡ Some q) ⊎ (o ≢ Some q)
is_decided None q = inr (λ e. cc)
is_decided (Some p) q = elim (same_player p q) [ inl e ↦ inl (ap Some e) | inr e ↦ inr (λ w. not_opponent q (sym (some_player p q w) ∙ e)) ]

of_parity : (d : ℕ) → (q : Player) × IsOf q d
of_parity d = elim (eqb_tells (d % 2) 1) [ inl w ↦ (Odd, w.1) | inr w ↦ (Even, (let n = w.1 in omega arith)) ]

-- ------------------------------------------------------------------ a game of which some vertices are decided

abbrev eq_player : Player → Player → Bool
eq_player Even Even = true
eq_player Even Odd = false
eq_player Odd Even = false
eq_player Odd Odd = true

eq_yes : (p q : Player) → eq_player p q ≡ true → p ≡ q
eq_yes Even Even e = refl
eq_yes Even Odd e = absurd (true≢false (sym e))
eq_yes Odd Even e = absurd (true≢false (sym e))
eq_yes Odd Odd e = refl

eq_itself : (p q : Player) → p ≡ q → eq_player p q ≡ true
eq_itself Even Even e = refl
eq_itself Even Odd e = absurd cc
eq_itself Odd Even e = absurd cc
eq_itself Odd Odd e = refl

abbrev is_open : Option Player → Bool
is_open None = true
is_open (Some p) = false

opened : (o : Option Player) → is_open o ≡ true → o ≡ None
opened None e = refl
opened (Some p) e = absurd (true≢false (sym e))

-- how much is open at a vertex
abbrev open_at : Option Player → ℕ
open_at None = 1
open_at (Some p) = 0

-- decided for this player where b says so, and else as before
abbrev put : Bool → Player → Option Player → Option Player
put true p o = Some p
put false p o = o

put_less : (b : Bool) (p : Player) (o : Option Player) → open_at (put b p o) ≤ open_at o
put_less true p o = omega arith
put_less false p o = omega arith

module _ (g : Game) (game : IsGame g) where
  -- an edge from a vertex that isn't decided, by the choice of its side
  abbrev Step : (ℕ → Option Player) → (ℕ → Player) → (ℕ → ℕ) → ℕ → ℕ → Type 0
  Step done side choice u t = (done u ≡ None) × Edge (side u) g choice u t

  -- the decided vertices keep their winners; of the others each is its side's, by the choices
  record Sides (done : ℕ → Option Player) : Type 0 where
    side : ℕ → Player
    choice : ℕ → ℕ
    keeps : (u : ℕ) (p : Player) → done u ≡ Some p → side u ≡ p
    own : (u : ℕ) (x : Vertex) → done u ≡ None → vertex g u ≡ Some x → x.owner ≡ side u → Contains x.successors (choice u)
    stays : (u t : ℕ) → Step done side choice u t → side t ≡ side u
    cycles : (u : ℕ) (others : List ℕ) → others ≢ [] → IsPath (Step done side choice) u others u → IsOf (side u) (greatest_met g others)

  below : (u t : ℕ) (x : Vertex) → vertex g u ≡ Some x → Contains x.successors t → t < length g.vertices
  below u t x at has = all_contained (λ t. t < length g.vertices) x.successors t
      (all_got (IsVertex (length g.vertices)) g.vertices u x game.vertices at).within has

  -- on a cycle no place is decided
  tight : (done : ℕ → Option Player) (R : ℕ → ℕ → Type 0) → ((u t : ℕ) → R u t → done u ≡ None) → (u : ℕ) (others : List ℕ) (t : ℕ) → done t ≡ None
      → IsPath R u others t → IsPath (λ a b. R a b × (done b ≡ None)) u others t
  tight done R f u [] t h p = p
  tight done R f u (m ∷ []) t h p = ((p.0, subst (λ z. done z ≡ None) (sym p.1) h), p.1)
  tight done R f u (m ∷ o ∷ others) t h p = ((p.0, f m o p.1.0), tight done R f m (o ∷ others) t h p.1)

  first_open : (done : ℕ → Option Player) (R : ℕ → ℕ → Type 0) → ((u t : ℕ) → R u t → done u ≡ None) → (u : ℕ) (others : List ℕ) (t : ℕ) → others ≢ []
      → IsPath R u others t → done u ≡ None
  first_open done R f u [] t h p = absurd (h refl)
  first_open done R f u (m ∷ others) t h p = f u m p.0

  -- where nothing is open
  all_decided : (done : ℕ → Option Player) → ((u : ℕ) → u < length g.vertices → done u ≢ None) → Sides done
  all_decided done h = record {
    side = side;
    choice = λ u. 0;
    keeps = λ u p e. ap side_of e;
    own = λ u x e at o. absurd (h u (slice_get_within g.vertices u x at) e);
    stays = λ u t s. absurd (never u t s);
    cycles = cycles;
  }
    where
      side_of : Option Player → Player
      side_of None = Even
      side_of (Some p) = p

      side : ℕ → Player
      side u = side_of (done u)

      never : (u t : ℕ) → Step done side (λ u. 0) u t → ⊥
      never u t (e, (x, at, w)) = h u (slice_get_within g.vertices u x at) e

      cycles : (u : ℕ) (others : List ℕ) → others ≢ [] → IsPath (Step done side (λ u. 0)) u others u → IsOf (side u) (greatest_met g others)
      cycles u [] m p = absurd (m refl)
      cycles u (o ∷ others) m p = absurd (never u o p.0)

  -- ---------------------------------------------------------------- one vertex falls to a player at once

  record Falls (done : ℕ → Option Player) (u : ℕ) : Type 0 where
    pending : done u ≡ None
    at : Vertex
    is : vertex g u ≡ Some at
    to : Player
    next : ℕ
    owned : at.owner ≡ to → Contains at.successors next × (done next ≡ Some to)
    all : at.owner ≢ to → (t : ℕ) → Contains at.successors t → done t ≡ Some to

  record Firm (done : ℕ → Option Player) (u : ℕ) : Type 0 where
    firm : done u ≡ None → (x : Vertex) → vertex g u ≡ Some x
        → ((t : ℕ) → Contains x.successors t → done t ≢ Some x.owner) × ((t : ℕ) × Contains x.successors t × (done t ≢ Some (opponent x.owner)))

  falls_or : (done : ℕ → Option Player) (u : ℕ) → Falls done u ⊎ Firm done u
  falls_or done u = by (done u) refl (vertex g u) refl
    where
      by : (o : Option Player) → done u ≡ o → (v : Option Vertex) → vertex g u ≡ v → Falls done u ⊎ Firm done u
      by (Some p) e v at = inr (record { firm = λ h. absurd cc })
      by None e None at = inr (record { firm = λ h x is. absurd cc })
      by None e (Some x) at = elim (find_in (λ t. done t ≡ Some x.owner) (λ t. done t ≢ Some x.owner) (λ t. is_decided (done t) x.owner) x.successors) [
        | inl w ↦ inl (record { pending = e; at = x; is = at; to = x.owner; next = w.0; owned = λ h. (w.1, w.2); all = λ h. absurd (h refl) })
        | inr none ↦ elim (find_in (λ t. done t ≢ Some (opponent x.owner)) (λ t. done t ≡ Some (opponent x.owner))
            (λ t. elim (is_decided (done t) (opponent x.owner)) [ inl y ↦ inr y | inr z ↦ inl z ]) x.successors) [
              | inl w ↦ inr (record {
                firm = λ h y is. (let q : x ≡ y = cc
                    in subst (λ z. ((t : ℕ) → Contains z.successors t → done t ≢ Some z.owner)
                    × ((t : ℕ) × Contains z.successors t × (done t ≢ Some (opponent z.owner)))) q (none, w));
              })
              | inr every ↦ inl (record {
                pending = e;
                at = x;
                is = at;
                to = opponent x.owner;
                next = 0;
                owned = λ h. absurd (not_opponent x.owner h);
                all = λ h. every;
              })
            ]
      ]

  abbrev with_one : (ℕ → Option Player) → ℕ → Player → ℕ → Option Player
  with_one done a p u = put (u == a) p (done u)

  with_here : (done : ℕ → Option Player) (a : ℕ) (p : Player) → with_one done a p a ≡ Some p
  with_here done a p = ap (λ b. put b p (done a)) (eq-eqb a a refl)

  with_other : (done : ℕ → Option Player) (a : ℕ) (p : Player) (u : ℕ) → u ≢ a → with_one done a p u ≡ done u
  with_other done a p u h = elim (eqb_tells u a) [ inl w ↦ absurd (h w.1) | inr w ↦ ap (λ b. put b p (done u)) w.0 ]

  open_differs : (done : ℕ → Option Player) (a u : ℕ) (p : Player) → done a ≡ None → done u ≡ Some p → u ≢ a
  open_differs done a u p h i e = let w : done a ≡ Some p = ap done (sym e) ∙ i in absurd cc

  module _ (done : ℕ → Option Player) (a : ℕ) (f : Falls done a) (s : Sides (with_one done a f.to)) where
    abbrev pick : Bool → ℕ → ℕ
    pick true u = f.next
    pick false u = s.choice u

    abbrev falling : ℕ → ℕ
    falling u = pick (u == a) u

    falling_here : (u : ℕ) → u ≡ a → falling u ≡ f.next
    falling_here u e = ap (λ b. pick b u) (eq-eqb u a e)

    falling_other : (u : ℕ) → u ≢ a → falling u ≡ s.choice u
    falling_other u h = elim (eqb_tells u a) [ inl w ↦ absurd (h w.1) | inr w ↦ ap (λ b. pick b u) w.0 ]

    its_side : s.side a ≡ f.to
    its_side = s.keeps a f.to (with_here done a f.to)

    kept_side : (u : ℕ) (p : Player) → done u ≡ Some p → s.side u ≡ p
    kept_side u p e = s.keeps u p (with_other done a f.to u (open_differs done a u p f.pending e) ∙ e)

    -- from a one comes to a decided vertex of its side
    from_a : (u t : ℕ) → u ≡ a → Edge (s.side u) g falling u t → done t ≡ Some f.to
    from_a u t e (x, at, inl w) =
        let q : f.at ≡ x = some_same f.at x (sym f.is ∙ (ap (vertex g) (sym e) ∙ at)) in
        let o : f.at.owner ≡ f.to = ap (λ (z : Vertex). z.owner) q ∙ (w.0 ∙ (ap s.side e ∙ its_side)) in
        subst (λ z. done z ≡ Some f.to) (sym (w.1 ∙ falling_here u e)) (f.owned o).1
    from_a u t e (x, at, inr w) =
        let q : f.at ≡ x = some_same f.at x (sym f.is ∙ (ap (vertex g) (sym e) ∙ at)) in
        f.all (λ o. w.0 (sym (ap (λ (z : Vertex). z.owner) q) ∙ (o ∙ sym (ap s.side e ∙ its_side)))) t (subst (λ z. Contains z.successors t) (sym q) w.1)

    -- elsewhere the step is one of the other game
    elsewhere : (u t : ℕ) → u ≢ a → Step done s.side falling u t → Step (with_one done a f.to) s.side s.choice u t
    elsewhere u t h (e, (x, at, inl w)) = (with_other done a f.to u h ∙ e, (x, at, inl (w.0, w.1 ∙ falling_other u h)))
    elsewhere u t h (e, (x, at, inr w)) = (with_other done a f.to u h ∙ e, (x, at, inr w))

    abbrev Tight : ℕ → ℕ → Type 0
    Tight u t = Step done s.side falling u t × (done t ≡ None)

    never_a : (u t : ℕ) → Tight u t → Step (with_one done a f.to) s.side s.choice u t
    never_a u t (st, o) = elim (eqb_tells u a) [
      | inl w ↦ (let d = from_a u t w.1 st.1 in absurd (open_not t f.to o d))
      | inr w ↦ elsewhere u t w.1 st
    ]
      where
        open_not : (t : ℕ) (p : Player) → done t ≡ None → done t ≡ Some p → ⊥
        open_not t p h i = cc

    falls_sides : Sides done
    falls_sides = record {
      side = s.side;
      choice = falling;
      keeps = kept_side;
      own = own;
      stays = stays;
      cycles = cycles;
    }
      where
        own : (u : ℕ) (x : Vertex) → done u ≡ None → vertex g u ≡ Some x → x.owner ≡ s.side u → Contains x.successors (falling u)
        own u x e at o = elim (eqb_tells u a) [
          | inl w ↦ (
              let q : f.at ≡ x = some_same f.at x (sym f.is ∙ (ap (vertex g) (sym w.1) ∙ at)) in
              let h : f.at.owner ≡ f.to = ap (λ (z : Vertex). z.owner) q ∙ (o ∙ (ap s.side w.1 ∙ its_side)) in
              subst (λ z. Contains x.successors z) (sym (falling_here u w.1)) (subst (λ z. Contains z.successors f.next) q (f.owned h).0))
          | inr w ↦ subst (λ z. Contains x.successors z) (sym (falling_other u w.1)) (s.own u x (with_other done a f.to u w.1 ∙ e) at o)
        ]

        stays : (u t : ℕ) → Step done s.side falling u t → s.side t ≡ s.side u
        stays u t st = elim (eqb_tells u a) [
          | inl w ↦ kept_side t f.to (from_a u t w.1 st.1) ∙ sym (ap s.side w.1 ∙ its_side)
          | inr w ↦ s.stays u t (elsewhere u t w.1 st)
        ]

        cycles : (u : ℕ) (others : List ℕ) → others ≢ [] → IsPath (Step done s.side falling) u others u → IsOf (s.side u) (greatest_met g others)
        cycles u others m p =
            let o = first_open done (Step done s.side falling) (λ b c st. st.0) u others u m p in
            s.cycles u others m (path_weaker Tight (Step (with_one done a f.to) s.side s.choice) never_a u others u
            (tight done (Step done s.side falling) (λ b c st. st.0) u others u o p))

  -- ---------------------------------------------------------------- none falls

  -- what is open below k has at most the priority p
  abbrev Low : (ℕ → Option Player) → ℕ → ℕ → Type 0
  Low done k p = (u : ℕ) → u < k → done u ≡ None → priority g u ≤ p

  low_more : (done : ℕ → Option Player) (k p : ℕ) → Low done k p → (done k ≡ None → priority g k ≤ p) → Low done (suc k) p
  low_more done k p low last u h e = elim (eqb_tells u k) [
    | inl z ↦ subst (λ b. priority g b ≤ p) (sym z.1) (last (ap done (sym z.1) ∙ e))
    | inr z ↦ (let m = z.1 in low u (omega arith) e)
  ]

  -- the greatest priority that is open
  peak : (done : ℕ → Option Player) (k : ℕ) → ((a : ℕ) × (a < k) × (done a ≡ None) × Low done k (priority g a)) ⊎ ((u : ℕ) → u < k → done u ≢ None)
  peak done zero = inr (λ u h. absurd (omega arith))
  peak done (suc k) = elim (peak done k) [
    | inl (a, l, o, low) ↦ elim (decided (done k)) [
      | inr w ↦ inl (a, omega arith, o, low_more done k (priority g a) low (λ e. (let v = w.1 in absurd cc)))
      | inl i ↦ elim (leb_tells (priority g k) (priority g a)) [
        | inl y ↦ inl (a, omega arith, o, low_more done k (priority g a) low (λ e. y.1))
        | inr y ↦ inl (k, omega arith, i, low_more done k (priority g k) (λ u h e. (let r = low u h e in let t = y.1 in omega arith)) (λ e. omega arith))
      ]
    ]
    | inr none ↦ elim (decided (done k)) [
      | inl o ↦ inl (k, omega arith, o, low_more done k (priority g k) (λ u h e. absurd (none u h e)) (λ e. omega arith))
      | inr w ↦ inr (λ u h e. elim (eqb_tells u k) [
        | inl y ↦ (let z : done k ≡ None = ap done (sym y.1) ∙ e in let v = w.1 in absurd cc)
        | inr y ↦
            (let m = y.1 in none u (omega arith) e)
      ])
    ]
  ]

  -- decided where the test says so
  abbrev with_all : (ℕ → Option Player) → (ℕ → Bool) → Player → ℕ → Option Player
  with_all done test p u = put (test u) p (done u)

  -- what is open and has this priority
  abbrev peaks : (ℕ → Option Player) → ℕ → ℕ → Bool
  peaks done d u = is_open (done u) && (priority g u == d)

  -- what is open and this player's
  abbrev taken : (ℕ → Option Player) → (ℕ → Player) → Player → ℕ → Bool
  taken done side r u = is_open (done u) && eq_player (side u) r

  decided_kept : (done : ℕ → Option Player) (test : Option Player → ℕ → Bool) (q : Player) → ((p : Player) (u : ℕ) → test (Some p) u ≡ false)
      → (u : ℕ) (p : Player) → done u ≡ Some p → put (test (done u) u) q (done u) ≡ Some p
  decided_kept done test q f u p e = ap (λ o. put (test o u) q o) e ∙ ap (λ b. put b q (Some p)) (f p u)

  module _ (done : ℕ → Option Player) (firm : (u : ℕ) → u < length g.vertices → Firm done u) (d : ℕ) (q : Player) (parity : IsOf q d)
      (top : (u : ℕ) → u < length g.vertices → done u ≡ None → priority g u ≤ d) (s : Sides (with_all done (peaks done d) q)) where
    abbrev first : ℕ → Option Player
    first = with_all done (peaks done d) q

    first_kept : (u : ℕ) (p : Player) → done u ≡ Some p → s.side u ≡ p
    first_kept u p e = s.keeps u p (decided_kept done (λ o v. is_open o && (priority g v == d)) q (λ r v. refl) u p e)

    stays_open : (u : ℕ) → peaks done d u ≡ false → done u ≡ None → first u ≡ None
    stays_open u h e = ap (λ b. put b q (done u)) h ∙ e

    -- the vertices of the greatest priority go on to where nothing is lost
    record Onward (u : ℕ) : Type 0 where
      to : ℕ
      good : (x : Vertex) → done u ≡ None → vertex g u ≡ Some x → Contains x.successors to × (done to ≢ Some (opponent x.owner))

    onward : (u : ℕ) → Onward u
    onward u = by (done u) refl (vertex g u) refl
      where
        by : (o : Option Player) → done u ≡ o → (v : Option Vertex) → vertex g u ≡ v → Onward u
        by (Some p) e v at = record { to = 0; good = λ x h is. absurd cc }
        by None e None at = record { to = 0; good = λ x h is. absurd cc }
        by None e (Some x) at =
            let w = ((firm u (slice_get_within g.vertices u x at)).firm e x at).1 in
            record {
              to = w.0;
              good = λ y h is. (let z : x ≡ y = cc
                  in subst (λ v. Contains v.successors w.0 × (done w.0 ≢ Some (opponent v.owner))) z (w.1, w.2));
            }

    module _ (all : (u : ℕ) → u < length g.vertices → done u ≡ None → s.side u ≡ q) where
      abbrev move : Bool → ℕ → ℕ
      move true u = (onward u).to
      move false u = s.choice u

      abbrev moving : ℕ → ℕ
      moving u = move (peaks done d u) u

      not_lost : (t : ℕ) → t < length g.vertices → done t ≢ Some (opponent q) → s.side t ≡ q
      not_lost t l h = elim (decided (done t)) [
        | inl o ↦ all t l o
        | inr w ↦ elim (same_player w.0 q) [
          | inl e ↦ first_kept t w.0 w.1 ∙ e
          | inr e ↦ absurd (h (w.1 ∙ ap Some e))
        ]
      ]

      calm : (u t : ℕ) → peaks done d u ≡ false → Step done s.side moving u t → Step first s.side s.choice u t
      calm u t h (e, (x, at, inl w)) = (stays_open u h e, (x, at, inl (w.0, w.1 ∙ ap (λ b. move b u) h)))
      calm u t h (e, (x, at, inr w)) = (stays_open u h e, (x, at, inr w))

      high : (u t : ℕ) → peaks done d u ≡ true → Step done s.side moving u t → s.side t ≡ q
      high u t h (e, (x, at, inl w)) =
          let good = (onward u).good x e at in
          let own : x.owner ≡ q = w.0 ∙ all u (slice_get_within g.vertices u x at) e in
          let is : t ≡ (onward u).to = w.1 ∙ ap (λ b. move b u) h in
          subst (λ z. s.side z ≡ q) (sym is) (not_lost (onward u).to (below u (onward u).to x at good.0)
          (subst (λ o. done (onward u).to ≢ Some (opponent o)) own good.1))
      high u t h (e, (x, at, inr w)) =
          let own : x.owner ≡ opponent q = other_player x.owner q (λ o. w.0 (o ∙ sym (all u (slice_get_within g.vertices u x at) e))) in
          let good = ((firm u (slice_get_within g.vertices u x at)).firm e x at).0 t w.1 in
          not_lost t (below u t x at w.1) (subst (λ o. done t ≢ Some o) own good)

      step_side : (u t : ℕ) → Step done s.side moving u t → s.side u ≡ q
      step_side u t (e, (x, at, w)) = all u (slice_get_within g.vertices u x at) e

      step_within : (u t : ℕ) → Step done s.side moving u t → u < length g.vertices
      step_within u t (e, (x, at, w)) = slice_get_within g.vertices u x at

      low_path : (u : ℕ) (others : List ℕ) (t : ℕ) → t < length g.vertices → IsPath (λ a b. Step done s.side moving a b × (done b ≡ None)) u others t
          → greatest_met g others ≤ d
      low_path u [] t l p = omega arith
      low_path u (m ∷ []) t l p = let h = top m (subst (λ z. z < length g.vertices) (sym p.1) l) p.0.1 in omega arith
      low_path u (m ∷ o ∷ others) t l p =
          let h = top m (step_within m o p.1.0.0) p.0.1 in
          let r = low_path m (o ∷ others) t l p.1 in
          omega arith

      calm_path : (u : ℕ) (others : List ℕ) (t : ℕ) → priority g u < d → greatest_met g others < d → IsPath (Step done s.side moving) u others t
          → IsPath (Step first s.side s.choice) u others t
      calm_path u [] t l h p = p
      calm_path u (m ∷ others) t l h p = (
        elim (either_way (peaks done d u)) [
          | inl y ↦ (let e = eqb-true (priority g u) d (and_parts (is_open (done u)) (priority g u == d) y).1 in absurd (omega arith))
          | inr y ↦ calm u m y p.0
        ],
        calm_path m others t (omega arith) (omega arith) p.1,
      )

      one_side : Sides done
      one_side = record {
        side = s.side;
        choice = moving;
        keeps = first_kept;
        own = own;
        stays = stays;
        cycles = cycles;
      }
        where
          own : (u : ℕ) (x : Vertex) → done u ≡ None → vertex g u ≡ Some x → x.owner ≡ s.side u → Contains x.successors (moving u)
          own u x e at o = elim (either_way (peaks done d u)) [
            | inl h ↦ subst (λ z. Contains x.successors z) (sym (ap (λ b. move b u) h)) ((onward u).good x e at).0
            | inr h ↦ subst (λ z. Contains x.successors z) (sym (ap (λ b. move b u) h)) (s.own u x (stays_open u h e) at o)
          ]

          stays : (u t : ℕ) → Step done s.side moving u t → s.side t ≡ s.side u
          stays u t st = elim (either_way (peaks done d u)) [
            | inl h ↦ high u t h st ∙ sym (step_side u t st)
            | inr h ↦ s.stays u t (calm u t h st)
          ]

          within_path : (u : ℕ) (others : List ℕ) → others ≢ [] → IsPath (Step done s.side moving) u others u → (u < length g.vertices) × (s.side u ≡ q)
          within_path u [] m p = absurd (m refl)
          within_path u (o ∷ others) m p = (step_within u o p.0, step_side u o p.0)

          cycles : (u : ℕ) (others : List ℕ) → others ≢ [] → IsPath (Step done s.side moving) u others u → IsOf (s.side u) (greatest_met g others)
          cycles u others m p =
              let w = within_path u others m p in
              let o = first_open done (Step done s.side moving) (λ b c st. st.0) u others u m p in
              let low = low_path u others u w.0 (tight done (Step done s.side moving) (λ b c st. st.0) u others u o p) in
              let last = last_met g (Step done s.side moving) u others u m p in
              elim (eqb_tells (greatest_met g others) d) [
                | inl y ↦ subst (λ z. IsOf z (greatest_met g others)) (sym w.1) (subst (λ k. IsOf q k) (sym y.1) parity)
                | inr y ↦ (let n' = y.1 in s.cycles u others m (calm_path u others u (omega arith) (omega arith) p))
              ]

    module _ (s' : Sides (with_all done (taken done s.side (opponent q)) (opponent q))) where
      abbrev r : Player
      r = opponent q

      abbrev second : ℕ → Option Player
      second = with_all done (taken done s.side r) r

      abbrev lost : ℕ → Bool
      lost = taken done s.side r

      abbrev turn : Bool → ℕ → ℕ
      turn true u = s.choice u
      turn false u = s'.choice u

      abbrev turning : ℕ → ℕ
      turning u = turn (lost u) u

      lost_side : (u : ℕ) → lost u ≡ true → s.side u ≡ r
      lost_side u h = eq_yes (s.side u) r (and_parts (is_open (done u)) (eq_player (s.side u) r) h).1

      is_lost : (u : ℕ) → done u ≡ None → s.side u ≡ r → lost u ≡ true
      is_lost u e h = and_from (is_open (done u)) (eq_player (s.side u) r) (ap is_open e) (eq_itself (s.side u) r h)

      -- no vertex of the greatest priority is lost
      lost_low : (u : ℕ) → lost u ≡ true → peaks done d u ≡ false
      lost_low u h = elim (either_way (peaks done d u)) [
        | inl y ↦ absurd (not_opponent q (sym (s.keeps u q (ap (λ b. put b q (done u)) y)) ∙ lost_side u h))
        | inr y ↦ y
      ]

      second_kept : (u : ℕ) (p : Player) → done u ≡ Some p → s'.side u ≡ p
      second_kept u p e = s'.keeps u p (decided_kept done (λ o v. is_open o && eq_player (s.side v) r) r (λ k v. refl) u p e)

      second_open : (u : ℕ) → lost u ≡ false → done u ≡ None → second u ≡ None
      second_open u h e = ap (λ b. put b r (done u)) h ∙ e

      remains : (t : ℕ) → s.side t ≡ r → s'.side t ≡ r
      remains t h = elim (decided (done t)) [
        | inl o ↦ s'.keeps t r (ap (λ b. put b r (done t)) (is_lost t o h))
        | inr w ↦ second_kept t w.0 w.1 ∙ (sym (first_kept t w.0 w.1) ∙ h)
      ]

      old : (u t : ℕ) → lost u ≡ true → Step done s'.side turning u t → Step first s.side s.choice u t
      old u t h (e, (x, at, inl w)) =
          let side : s'.side u ≡ s.side u = remains u (lost_side u h) ∙ sym (lost_side u h) in
          (stays_open u (lost_low u h) e, (x, at, inl (w.0 ∙ side, w.1 ∙ ap (λ b. turn b u) h)))
      old u t h (e, (x, at, inr w)) =
          let side : s'.side u ≡ s.side u = remains u (lost_side u h) ∙ sym (lost_side u h) in
          (stays_open u (lost_low u h) e, (x, at, inr ((λ o. w.0 (o ∙ sym side)), w.1)))

      new : (u t : ℕ) → lost u ≡ false → Step done s'.side turning u t → Step second s'.side s'.choice u t
      new u t h (e, (x, at, inl w)) = (second_open u h e, (x, at, inl (w.0, w.1 ∙ ap (λ b. turn b u) h)))
      new u t h (e, (x, at, inr w)) = (second_open u h e, (x, at, inr w))

      abbrev Inner : ℕ → ℕ → Type 0
      Inner a b = Step done s'.side turning a b × (done b ≡ None)

      lost_on : (u t : ℕ) → lost u ≡ true → Inner u t → lost t ≡ true
      lost_on u t h (st, o) = is_lost t o (s.stays u t (old u t h st) ∙ lost_side u h)

      lost_far : (u : ℕ) (others : List ℕ) (t : ℕ) → lost u ≡ true → IsPath Inner u others t → lost t ≡ true
      lost_far u [] t h p = ap lost (sym p) ∙ h
      lost_far u (m ∷ others) t h p = lost_far m others t (lost_on u m h p.0) p.1

      old_path : (u : ℕ) (others : List ℕ) (t : ℕ) → lost u ≡ true → IsPath Inner u others t → IsPath (Step first s.side s.choice) u others t
      old_path u [] t h p = p
      old_path u (m ∷ others) t h p = (old u m h p.0.0, old_path m others t (lost_on u m h p.0) p.1)

      new_path : (u : ℕ) (others : List ℕ) (t : ℕ) → lost t ≡ false → IsPath Inner u others t → IsPath (Step second s'.side s'.choice) u others t
      new_path u [] t h p = p
      new_path u (m ∷ others) t h p = (
        elim (either_way (lost u)) [
          | inl y ↦ absurd (true≢false (sym (lost_far u (m ∷ others) t y p) ∙ h))
          | inr y ↦ new u m y p.0.0
        ],
        new_path m others t h p.1,
      )

      two_sides : Sides done
      two_sides = record {
        side = s'.side;
        choice = turning;
        keeps = second_kept;
        own = own;
        stays = stays;
        cycles = cycles;
      }
        where
          own : (u : ℕ) (x : Vertex) → done u ≡ None → vertex g u ≡ Some x → x.owner ≡ s'.side u → Contains x.successors (turning u)
          own u x e at o = elim (either_way (lost u)) [
            | inl h ↦ subst (λ z. Contains x.successors z) (sym (ap (λ b. turn b u) h))
                (s.own u x (stays_open u (lost_low u h) e) at (o ∙ (remains u (lost_side u h) ∙ sym (lost_side u h))))
            | inr h ↦ subst (λ z. Contains x.successors z) (sym (ap (λ b. turn b u) h)) (s'.own u x (second_open u h e) at o)
          ]

          stays : (u t : ℕ) → Step done s'.side turning u t → s'.side t ≡ s'.side u
          stays u t st = elim (either_way (lost u)) [
            | inl h ↦ remains t (s.stays u t (old u t h st) ∙ lost_side u h) ∙ sym (remains u (lost_side u h))
            | inr h ↦ s'.stays u t (new u t h st)
          ]

          cycles : (u : ℕ) (others : List ℕ) → others ≢ [] → IsPath (Step done s'.side turning) u others u → IsOf (s'.side u) (greatest_met g others)
          cycles u others m p =
              let o = first_open done (Step done s'.side turning) (λ b c st. st.0) u others u m p in
              let t = tight done (Step done s'.side turning) (λ b c st. st.0) u others u o p in
              elim (either_way (lost u)) [
                | inl h ↦ subst (λ z. IsOf z (greatest_met g others)) (lost_side u h ∙ sym (remains u (lost_side u h)))
                    (s.cycles u others m (old_path u others u h t))
                | inr h ↦ s'.cycles u others m (new_path u others u h t)
              ]

  -- ---------------------------------------------------------------- the induction

  abbrev opens : (ℕ → Option Player) → ℕ
  opens done = total (λ u. open_at (done u)) (length g.vertices)

  fewer : (done : ℕ → Option Player) (test : ℕ → Bool) (p : Player) (a : ℕ) → a < length g.vertices → done a ≡ None → test a ≡ true
      → opens (with_all done test p) < opens done
  fewer done test p a l e h = elim (leb_tells (opens done) (opens (with_all done test p))) [
    | inl w ↦ (
        let r = total_same (λ u. open_at (with_all done test p u)) (λ u. open_at (done u)) (length g.vertices) (λ u. put_less (test u) p (done u)) w.1 a l in
        let one : open_at (done a) ≡ 1 = ap open_at e in
        let none : open_at (with_all done test p a) ≡ 0 = ap (λ b. open_at (put b p (done a))) h in
        absurd (omega (arith, r, one, none)))
    | inr w ↦ w.1
  ]

  solve : (k : ℕ) (done : ℕ → Option Player) → opens done ≤ k → Sides done
  solve zero done h = elim (peak done (length g.vertices)) [
    | inl w ↦ (let f = fewer done (λ u. u == w.0) Even w.0 w.1 w.2 (eq-eqb w.0 w.0 refl) in absurd (omega arith))
    | inr none ↦ all_decided done none
  ]
  solve (suc k) done h = elim (peak done (length g.vertices)) [
    | inr none ↦ all_decided done none
    | inl w ↦ elim (find_below (Falls done) (Firm done) (falls_or done) (length g.vertices)) [
      | inl y ↦ falls_sides done y.0 y.2 (solve k (with_one done y.0 y.2.to)
          (let f = fewer done (λ u. u == y.0) y.2.to y.0 y.1 y.2.pending (eq-eqb y.0 y.0 refl) in omega arith))
      | inr firm ↦ (
          let d = priority g w.0 in
          let p = of_parity d in
          let f = fewer done (peaks done d) p.0 w.0 w.1 w.2 (and_from (is_open (done w.0)) (d == d) (ap is_open w.2) (eq-eqb d d refl)) in
          let s = solve k (with_all done (peaks done d) p.0) (omega arith) in
          elim (find_below (λ u. (done u ≡ None) × (s.side u ≡ opponent p.0)) (λ u. done u ≡ None → s.side u ≡ p.0) (sided done p.0 s.side)
          (length g.vertices)) [
            | inl z ↦ two_sides done firm d p.0 p.1 w.3 s (solve k (with_all done (taken done s.side (opponent p.0)) (opponent p.0)) (
                let f' = fewer done (taken done s.side (opponent p.0)) (opponent p.0) z.0 z.1 z.2.0
                (and_from (is_open (done z.0)) (eq_player (s.side z.0) (opponent p.0)) (ap is_open z.2.0) (eq_itself (s.side z.0) (opponent p.0) z.2.1)) in
                omega arith))
            | inr all ↦ one_side done firm d p.0 p.1 w.3 s all
          ])
    ]
  ]
    where
      sided : (done : ℕ → Option Player) (q : Player) (side : ℕ → Player) (u : ℕ) → ((done u ≡ None) × (side u ≡ opponent q)) ⊎ (done u ≡ None → side u ≡ q)
      sided done q side u = elim (same_player (side u) q) [
        | inl e ↦ inr (λ o. e)
        | inr e ↦ elim (decided (done u)) [ inl o ↦ inl (o, e) | inr w ↦ inr (λ o. (let v = w.1 in absurd cc)) ]
      ]

  sides : Sides (λ u. None)
  sides = solve (opens (λ u. None)) (λ u. None) (omega arith)

  module _ (s : Sides (λ u. None)) (p : Player) where
    abbrev within : ℕ → Bool
    within u = nat_lt u (length g.vertices) && eq_player (s.side u) p

    within_tells : (u : ℕ) → IsTrue (within u) → (u < length g.vertices) × (s.side u ≡ p)
    within_tells u h = let w = and_parts (nat_lt u (length g.vertices)) (eq_player (s.side u) p) h
        in (ltb-true u (length g.vertices) w.0, eq_yes (s.side u) p w.1)

    is_within : (u : ℕ) → u < length g.vertices → s.side u ≡ p → IsTrue (within u)
    is_within u l e = and_from (nat_lt u (length g.vertices)) (eq_player (s.side u) p) (lt-ltb u (length g.vertices) l) (eq_itself (s.side u) p e)

    as_step : (u t : ℕ) → s.side u ≡ p → Edge p g s.choice u t → Step (λ u. None) s.side s.choice u t
    as_step u t e w = (refl, subst (λ o. Edge o g s.choice u t) (sym e) w)

    target : (u t : ℕ) → s.side u ≡ p → Edge p g s.choice u t → t < length g.vertices
    target u t e (x, at, inl w) = subst (λ z. z < length g.vertices) (sym w.1) (below u (s.choice u) x at (s.own u x refl at (w.0 ∙ sym e)))
    target u t e (x, at, inr w) = below u t x at w.1

    as_path : (u : ℕ) (others : List ℕ) (t : ℕ) → s.side u ≡ p → IsPath (Edge p g s.choice) u others t → IsPath (Step (λ u. None) s.side s.choice) u others t
    as_path u [] t e w = w
    as_path u (m ∷ others) t e w = let st = as_step u m e w.0 in (st, as_path m others t (s.stays u m st ∙ e) w.1)

    side_wins : (v : ℕ) → v < length g.vertices → s.side v ≡ p → WinsBy p g v
    side_wins v l e = record {
      set = within;
      choice = s.choice;
      has = is_within v l e;
      strategy = record {
        inside = λ u h. (within_tells u h).0;
        own = λ u x h at o. s.own u x refl at (o ∙ sym (within_tells u h).1);
        closed = λ u t h w. (let i = (within_tells u h).1 in is_within t (target u t i w) (s.stays u t (as_step u t i w) ∙ i));
        cycles = λ u others h m w. (let i = (within_tells u h).1
            in subst (λ o. IsOf o (greatest_met g others)) i (s.cycles u others m (as_path u others u i w)));
      };
    }

  won_by : (v : ℕ) → v < length g.vertices → (o : Player) → sides.side v ≡ o → WinsBy Even g v ⊎ WinsBy Odd g v
  won_by v l Even e = inl (side_wins sides Even v l e)
  won_by v l Odd e = inr (side_wins sides Odd v l e)

  pub one_wins : (v : ℕ) → v < length g.vertices → WinsBy Even g v ⊎ WinsBy Odd g v
  one_wins v l = won_by v l (sides.side v) refl
