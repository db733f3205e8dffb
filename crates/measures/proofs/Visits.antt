-- How often a priority is met at most along a strategy, before a greater one.
use Rattle.measures.proofs.Common.{◌≡◌, ◌≢◌, ℕ, zero, suc, ◌%◌, ◌<◌, ◌≤◌, ◌⊎◌, max, Bool, true, false, ◌&&◌, List, [], ◌∷◌, length, map, refl, sym, ap, subst}
use Rattle.measures.proofs.Common.{◌∙◌, inl, inr, arith, true≢false, IsTrue, Contains, Some, None, Option, nat_le, ◌==◌, eqb-true, eq-eqb, le-leb, le_trans}
use Rattle.measures.proofs.Common.{lt_of_lt_of_le, lt_of_le_of_lt, AllByRecursion, leb_tells, IsPath, Player, Even, Odd, Vertex, Game, vertex, count, Edge}
use Rattle.measures.proofs.Common.{IsStrategy, priority_at, greatest_met, is_odd, and_parts}
use Rattle.measures.proofs.Lists.{contains_first, contains_later, contains_none, contains_cases, all_weaker}
use Rattle.measures.proofs.Distinct.{Apart, PassesAt, apart_count}
use Rattle.measures.proofs.Rests.{rests}
use Rattle.measures.proofs.Cycles.{priority, odd_or_even, last_met}
use Rattle.measures.proofs.TableWins.{other_owner}

abbrev pub most : List ℕ → ℕ
most [] = 0
most (x ∷ xs) = max x (most xs)

pub most_more : (f h : ℕ → ℕ) (xs : List ℕ) → ((x : ℕ) → f x ≤ h x) → most (map f xs) ≤ most (map h xs)
most_more f h [] l = omega arith
most_more f h (x ∷ xs) l = let r = most_more f h xs l in let s = l x in omega arith

pub most_has : (f : ℕ → ℕ) (xs : List ℕ) (x : ℕ) → Contains xs x → f x ≤ most (map f xs)
most_has f [] x c = absurd (contains_none x c)
most_has f (y ∷ ys) x c = elim (contains_cases y x ys c) [
  | inl e ↦ (let q : f y ≡ f x = ap f e in omega arith)
  | inr d ↦ (let r = most_has f ys x d in omega arith)
]

pub most_is : (f : ℕ → ℕ) (xs : List ℕ) → (most (map f xs) ≡ 0) ⊎ ((x : ℕ) × Contains xs x × (most (map f xs) ≡ f x))
most_is f [] = inl refl
most_is f (x ∷ xs) = elim (leb_tells (most (map f xs)) (f x)) [
  | inl w ↦ inr (x, contains_first x xs, (let h = w.1 in omega arith))
  | inr w ↦ elim (most_is f xs) [
    | inl z ↦ (let h = w.1 in absurd (omega arith))
    | inr y ↦ inr (y.0, contains_later x y.0 xs y.1, (let h = w.1 in let q = y.2 in omega arith))
  ]
]

-- one more if here, where it counts at all
abbrev counted : Bool → Bool → ℕ → ℕ
counted true true n = suc n
counted true false n = n
counted false b n = 0

counted_more : (a b : Bool) (m n : ℕ) → m ≤ n → counted a b m ≤ counted a b n
counted_more true true m n h = omega arith
counted_more true false m n h = h
counted_more false b m n h = omega arith

module _ (g : Game) (set : ℕ → Bool) (choice : ℕ → ℕ) (strategy : IsStrategy Even g set choice) where
  abbrev owned : ℕ → Vertex → Player → List ℕ
  owned u x Even = choice u ∷ []
  owned u x Odd = x.successors

  abbrev moves_of : ℕ → Option Vertex → List ℕ
  moves_of u None = []
  moves_of u (Some x) = owned u x x.owner

  -- where the strategy may lead from u
  abbrev moves : ℕ → List ℕ
  moves u = moves_of u (vertex g u)

  edge_moves : (u t : ℕ) → Edge Even g choice u t → Contains (moves u) t
  edge_moves u t (x, at, inl w) = subst (λ o. Contains (moves_of u o) t) (sym at)
      (subst (λ o. Contains (owned u x o) t) (sym w.0) (subst (λ z. Contains (z ∷ []) t) w.1 (contains_first t [])))
  edge_moves u t (x, at, inr w) = subst (λ o. Contains (moves_of u o) t) (sym at) (subst (λ o. Contains (owned u x o) t) (sym (other_owner x.owner w.0)) w.1)

  moves_edge : (u t : ℕ) → Contains (moves u) t → Edge Even g choice u t
  moves_edge u t = by (vertex g u) refl
    where
      own : (x : Vertex) (o : Player) → vertex g u ≡ Some x → x.owner ≡ o → Contains (owned u x o) t → Edge Even g choice u t
      own x Even at e c = elim (contains_cases (choice u) t [] c) [ inl q ↦ (x, at, inl (e, sym q)) | inr d ↦ absurd (contains_none t d) ]
      own x Odd at e c = (x, at, inr ((λ q. let w : Odd ≡ Even = sym e ∙ q in absurd cc), c))

      by : (o : Option Vertex) → vertex g u ≡ o → Contains (moves_of u o) t → Edge Even g choice u t
      by None at c = absurd (contains_none t c)
      by (Some x) at c = own x x.owner at refl c

  abbrev within : ℕ → ℕ → Bool
  within p v = set v && nat_le (priority g v) p

  -- how often p is met at most in k steps from v, before a greater one
  abbrev pub longest : ℕ → ℕ → ℕ → ℕ
  longest p zero v = 0
  longest p (suc k) v = counted (within p v) (priority g v == p) (most (map (λ t. longest p k t) (moves v)))

  pub longest_rises : (p k v : ℕ) → longest p k v ≤ longest p (suc k) v
  longest_rises p zero v = omega arith
  longest_rises p (suc k) v =
      counted_more (within p v) (priority g v == p) (most (map (λ t. longest p k t) (moves v))) (most (map (λ t. longest p (suc k) t) (moves v)))
      (most_more (λ t. longest p k t) (λ t. longest p (suc k) t) (moves v) (longest_rises p k))

  -- x has priority p, and is met from v before a greater one
  record IsMet (p v x : ℕ) : Type 0 where
    here : priority g x ≡ p
    others : List ℕ
    path : IsPath (Edge Even g choice) v others x
    low : max (priority g v) (greatest_met g others) ≤ p

  record Met (p v n : ℕ) : Type 0 where
    places : List ℕ
    long : length places ≡ n
    apart : Apart places
    each : AllByRecursion (IsMet p v) places

  none_met : (p v : ℕ) → Met p v 0
  none_met p v = record { places = []; long = refl; apart = tt; each = tt }

  -- what is met from t is also met from v
  before : (p v t x : ℕ) → priority g v ≤ p → Edge Even g choice v t → IsMet p t x → IsMet p v x
  before p v t x l e m = let low = m.low in record { here = m.here; others = t ∷ m.others; path = (e, m.path); low = omega arith }

  -- it isn't v, for else there were an odd cycle
  not_again : (p v t x : ℕ) → is_odd p ≡ true → IsTrue (set v) → priority g v ≡ p → Edge Even g choice v t → IsMet p t x → v ≢ x
  not_again p v t x odd h q e m same =
      let path : IsPath (Edge Even g choice) v (t ∷ m.others) v = (e, subst (λ y. IsPath (Edge Even g choice) t m.others y) (sym same) m.path) in
      let last = last_met g (Edge Even g choice) v (t ∷ m.others) v (λ z. cc) path in
      let even : greatest_met g (t ∷ m.others) % 2 ≡ 0 = strategy.cycles v (t ∷ m.others) h (λ z. cc) path in
      let low = m.low in
      let is : greatest_met g (t ∷ m.others) ≡ p = omega arith in
      elim (odd_or_even p) [
        | inl w ↦ (let one = w.1 in let zeroed : p % 2 ≡ 0 = subst (λ n. n % 2 ≡ 0) is even in omega (arith, one, zeroed))
        | inr w ↦ true≢false (sym odd ∙ w.0)
      ]

  met_on : (p v n : ℕ) → is_odd p ≡ true → IsTrue (set v) → priority g v ≡ p → (t : ℕ) → Edge Even g choice v t → Met p t n → Met p v (suc n)
  met_on p v n odd h q t e m = record {
    places = v ∷ m.places;
    long = ap suc m.long;
    apart = (all_weaker (IsMet p t) (λ x. v ≢ x) m.places (λ x. not_again p v t x odd h q e) m.each, m.apart);
    each = (
      record { here = q; others = []; path = refl; low = omega arith },
      all_weaker (IsMet p t) (IsMet p v) m.places (λ x. before p v t x (omega arith) e) m.each,
    );
  }

  met_past : (p v n : ℕ) → priority g v ≤ p → (t : ℕ) → Edge Even g choice v t → Met p t n → Met p v n
  met_past p v n l t e m = record {
    places = m.places;
    long = m.long;
    apart = m.apart;
    each = all_weaker (IsMet p t) (IsMet p v) m.places (λ x. before p v t x l e) m.each;
  }

  met_here : (p v : ℕ) → priority g v ≡ p → Met p v 1
  met_here p v q = record { places = v ∷ []; long = refl; apart = (tt, tt); each = (record { here = q; others = []; path = refl; low = omega arith }, tt) }

  within_tells : (p v : ℕ) → within p v ≡ true → IsTrue (set v) × (priority g v ≤ p)
  within_tells p v e =
      let w = and_parts (set v) (nat_le (priority g v) p) e in
      (w.0, elim (leb_tells (priority g v) p) [ inl y ↦ y.1 | inr y ↦ absurd (true≢false (sym w.1 ∙ y.0)) ])

  met_by : (p v n : ℕ) (f : ℕ → ℕ) → is_odd p ≡ true → ((t : ℕ) → Met p t (f t)) → (n ≡ 0) ⊎ ((t : ℕ) × Contains (moves v) t × (n ≡ f t))
      → (a b : Bool) → within p v ≡ a → (priority g v == p) ≡ b → Met p v (counted a b n)
  met_by p v n f odd m (inl z) true true i j = subst (λ k. Met p v (suc k)) (sym z) (met_here p v (eqb-true (priority g v) p j))
  met_by p v n f odd m (inl z) true false i j = subst (λ k. Met p v k) (sym z) (none_met p v)
  met_by p v n f odd m (inr (t, has, e)) true true i j =
      met_on p v n odd (within_tells p v i).0 (eqb-true (priority g v) p j) t (moves_edge v t has) (subst (λ k. Met p t k) (sym e) (m t))
  met_by p v n f odd m (inr (t, has, e)) true false i j = met_past p v n (within_tells p v i).1 t (moves_edge v t has) (subst (λ k. Met p t k) (sym e) (m t))
  met_by p v n f odd m w false b i j = none_met p v

  met : (p : ℕ) → is_odd p ≡ true → (k v : ℕ) → Met p v (longest p k v)
  met p odd zero v = none_met p v
  met p odd (suc k) v = met_by p v (most (map (λ t. longest p k t) (moves v))) (λ t. longest p k t) odd (met p odd k)
      (most_is (λ t. longest p k t) (moves v)) (within p v) (priority g v == p) refl refl

  -- a vertex of an odd priority is one of the game's
  is_vertex : (p x : ℕ) → is_odd p ≡ true → priority g x ≡ p → PassesAt (λ y. y.priority == p) g.vertices x
  is_vertex p x odd q = by (vertex g x) refl
    where
      by : (o : Option Vertex) → vertex g x ≡ o → PassesAt (λ y. y.priority == p) g.vertices x
      by None at = let z : 0 ≡ p = ap priority_at (sym at) ∙ q in absurd (true≢false (sym odd ∙ ap is_odd (sym z)))
      by (Some y) at = (y, at, eq-eqb y.priority p (ap priority_at (sym at) ∙ q))

  pub longest_bounded : (p k v : ℕ) → is_odd p ≡ true → longest p k v ≤ count g p
  longest_bounded p k v odd =
      let m = met p odd k v in
      let h = apart_count (λ y. y.priority == p) g.vertices m.places m.apart
      (all_weaker (IsMet p v) (PassesAt (λ y. y.priority == p) g.vertices) m.places (λ x i. is_vertex p x odd i.here) m.each) in
      let e = m.long in
      omega (arith, h, e)

  -- so many steps that one more changes nothing
  abbrev Rested : ℕ → Type 0
  Rested p = (k : ℕ) × (is_odd p ≡ true → (v : ℕ) → v < length g.vertices → longest p (suc k) v ≤ longest p k v)

  rested : (p : ℕ) → Rested p
  rested p = by (is_odd p) refl
    where
      by : (b : Bool) → is_odd p ≡ b → Rested p
      by true odd = let r = rests (longest p) (count g p) (length g.vertices) (longest_rises p) (λ k v l. longest_bounded p k v odd) in (r.0, λ o. r.1)
      by false even = (0, λ odd. absurd (true≢false (sym odd ∙ even)))

  -- how often p is met at most from v, before a greater one
  pub ever : ℕ → ℕ → ℕ
  ever p v = longest p (rested p).0 v

  pub ever_bounded : (p v : ℕ) → is_odd p ≡ true → ever p v ≤ count g p
  unfolding ever
  ever_bounded p v odd = longest_bounded p (rested p).0 v odd

  more_than : (a b : Bool) (n : ℕ) → a ≡ true → n ≤ counted a b n
  more_than true true n e = omega arith
  more_than true false n e = omega arith
  more_than false b n e = absurd (true≢false (sym e))

  more_still : (a b : Bool) (n : ℕ) → a ≡ true → b ≡ true → n < counted a b n
  more_still true true n e d = omega arith
  more_still true false n e d = absurd (true≢false (sym d))
  more_still false b n e d = absurd (true≢false (sym e))

  is_within : (p v : ℕ) → IsTrue (set v) → priority g v ≤ p → within p v ≡ true
  is_within p v h l = ap (λ b. b && nat_le (priority g v) p) h ∙ le-leb (priority g v) p l

  -- along an edge it doesn't rise, unless a greater priority stands there
  pub ever_falls : (p v t : ℕ) → is_odd p ≡ true → IsTrue (set v) → priority g v ≤ p → Edge Even g choice v t → ever p t ≤ ever p v
  unfolding ever
  ever_falls p v t odd h l e =
      let k = (rested p).0 in
      let n = most (map (λ u. longest p k u) (moves v)) in
      let a = most_has (λ u. longest p k u) (moves v) t (edge_moves v t e) in
      let b = more_than (within p v) (priority g v == p) n (is_within p v h l) in
      le_trans (le_trans a b) ((rested p).1 odd v (strategy.inside v h))

  -- and where p stands it falls
  pub ever_falls_there : (p v t : ℕ) → is_odd p ≡ true → IsTrue (set v) → priority g v ≡ p → Edge Even g choice v t → ever p t < ever p v
  unfolding ever
  ever_falls_there p v t odd h q e =
      let k = (rested p).0 in
      let n = most (map (λ u. longest p k u) (moves v)) in
      let a = most_has (λ u. longest p k u) (moves v) t (edge_moves v t e) in
      let b = more_still (within p v) (priority g v == p) n (is_within p v h (omega arith)) (eq-eqb (priority g v) p q) in
      lt_of_lt_of_le (lt_of_le_of_lt a b) ((rested p).1 odd v (strategy.inside v h))
