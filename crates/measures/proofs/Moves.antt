-- Where Even goes on by the least table: to the first successor that its vertex's value reaches.
use Rattle.measures.proofs.Common.{◌≡◌, ◌≢◌, ℕ, zero, suc, ◌<◌, ◌≤◌, List, [], ◌∷◌, length, map, sym, ap, subst, ◌∙◌, inl, inr, arith, Contains, Some, AllZip}
use Rattle.measures.proofs.Common.{slice_index, slice_set, slice_get_within, get_or_default, length-set, eqb_tells, leb_tells, Even, Vertex, Game, vertex}
use Rattle.measures.proofs.Common.{IsGame, IsVertex, Measure, Top, IsMeasure, IsAtMost, IsBelow, IsProg, Reaches, IsBestFor, IsLeastTable, IsLiftAt, IsTable}
use Rattle.measures.proofs.Common.{IsLeastSuccessor, IsSettled, GameTable, AllByRecursion, option_map, value_at}
use Rattle.game.specs.Game.{IsAscending}
use Rattle.measures.proofs.Bests.{its_successors, vertex_tells}
use Rattle.measures.proofs.Lifts.{even_reaches, settled, value_measure}
use Rattle.measures.proofs.Lists.{all_from, all_got, zip_on}
use Rattle.measures.proofs.Measures.{at_most_itself, at_most_or_below, at_most_trans, below_at_most, not_below, own_greater, prog, prog_more, reaches_up}
use Rattle.measures.proofs.Monotone.{LiesUnder, best_more}
use Rattle.measures.proofs.Plain.{value_set_other, value_set_same}
use Rattle.measures.proofs.Places.{place_contained}

ascending_at : (xs : List ℕ) (i j : ℕ) → IsAscending xs → i ≤ j → j < length xs → slice_index xs i ≤ slice_index xs j
ascending_at [] i j up le h = absurd (omega arith)
ascending_at (x ∷ xs) zero zero up le h = omega arith
ascending_at (x ∷ []) zero (suc j) up le h = absurd (omega arith)
ascending_at (x ∷ y ∷ xs) zero (suc j) up le h = let r = ascending_at (y ∷ xs) zero j up.1 (omega arith) (omega arith) in let l = up.0 in omega (arith, r, l)
ascending_at (x ∷ xs) (suc i) zero up le h = absurd (omega arith)
ascending_at (x ∷ []) (suc i) (suc j) up le h = absurd (omega arith)
ascending_at (x ∷ y ∷ xs) (suc i) (suc j) up le h = ascending_at (y ∷ xs) i j up.1 (omega arith) (omega arith)

module _ (g : Game) (game : IsGame g) (table : List Measure) (least : IsLeastTable g table) (v : ℕ) (x : Vertex) (at : vertex g v ≡ Some x)
    (own : x.owner ≡ Even) where
  inside : v < length g.vertices
  inside = slice_get_within g.vertices v x at

  there : v < length table
  there = let l = least.progress.0.0 in let h = inside in omega arith

  measured : (t : ℕ) → IsMeasure g (value_at table t)
  measured t = value_measure g table least.progress.0.1 t

  -- where a successor's prog were less than the value, the table with that prog in its place were a progress table too
  module _ (t : ℕ) (has : Contains x.successors t) (r : Measure) (is : IsProg g x.priority (value_at table t) r) (low : IsBelow r (value_at table v)) where
    abbrev Lowered : List Measure
    Lowered = slice_set table v r

    here : value_at Lowered v ≡ r
    here = value_set_same table v r there

    others : (u : ℕ) → u ≢ v → value_at Lowered u ≡ value_at table u
    others u d = value_set_other table v u r d

    lies_under : LiesUnder Lowered table
    lies_under u = elim (eqb_tells u v) [
      | inl w ↦ subst (λ k. IsAtMost (value_at Lowered k) (value_at table k)) (sym w.1)
          (subst (λ (m : Measure). IsAtMost m (value_at table v)) (sym here) (below_at_most r (value_at table v) low))
      | inr w ↦ subst (λ (m : Measure). IsAtMost m (value_at table u)) (sym (others u w.1)) (at_most_itself (value_at table u))
    ]

    measured_still : (u : ℕ) → IsMeasure g (value_at Lowered u)
    measured_still u = elim (eqb_tells u v) [
      | inl w ↦ subst (λ k. IsMeasure g (value_at Lowered k)) (sym w.1) (subst (λ (m : Measure). IsMeasure g m) (sym here) is.measure)
      | inr w ↦ subst (λ (m : Measure). IsMeasure g m) (sym (others u w.1)) (measured u)
    ]

    is_table : IsTable g Lowered
    is_table = (length-set table v r ∙ least.progress.0.0, all_from (IsMeasure g) Lowered Top (λ u l. measured_still u))

    -- the best of what v asks for is at most the prog
    best_here : (progs : List Measure) (best : Measure) → AllZip (IsProg g x.priority) (map (value_at Lowered) x.successors) progs → IsBestFor Even progs best
        → IsAtMost best (value_at Lowered v)
    best_here progs best zipped b =
        let on = zip_on (IsProg g x.priority) (λ m. IsAtMost best m) (value_at Lowered) x.successors progs t zipped b.1 has in
        let less = prog_more g x.priority (value_at Lowered t) (value_at table t) on.0 r (lies_under t) on.1 is in
        subst (λ (m : Measure). IsAtMost best m) (sym here) (at_most_trans best on.0 r on.2 less)

    best_at : (u : ℕ) (y : Vertex) (progs : List Measure) (best : Measure) → vertex g u ≡ Some y
        → AllZip (IsProg g y.priority) (map (value_at Lowered) y.successors) progs → IsBestFor y.owner progs best → IsAtMost best (value_at Lowered u)
    best_at u y progs best is_y zipped b = elim (eqb_tells u v) [
      | inl w ↦ (
          let same : y ≡ x = same_vertex y x (sym is_y ∙ (ap (vertex g) w.1 ∙ at)) in
          let zips = subst (λ (z : Vertex). AllZip (IsProg g z.priority) (map (value_at Lowered) z.successors) progs) same zipped in
          let best_is = subst (λ o. IsBestFor o progs best) (ap (λ (z : Vertex). z.owner) same ∙ own) b in
          subst (λ k. IsAtMost best (value_at Lowered k)) (sym w.1) (best_here progs best zips best_is))
      | inr w ↦ (
          let s = settled g table game least.progress u y is_y in
          let less = best_more g y.priority (value_at Lowered) (value_at table) lies_under y.successors y.owner progs s.progs best s.best zipped s.zipped b
          s.best_is in
          subst (λ (m : Measure). IsAtMost best m) (sym (others u w.1)) (at_most_trans best s.best (value_at table u) less s.under))
    ]
      where
        same_vertex : (a b : Vertex) → Some a ≡ Some b → a ≡ b
        same_vertex a b e = cc

    lifted : (u : ℕ) (m : Measure) → IsLiftAt g Lowered u m → m ≡ value_at Lowered u
    lifted u m (y, is_y, (progs, best, zipped, b, e)) = e ∙ own_greater (value_at Lowered u) best (best_at u y progs best is_y zipped b)

    never_less : ⊥
    never_less = not_below r (value_at table v) low
        (subst (λ (m : Measure). IsAtMost (value_at table v) m) here (least.under v inside Lowered (is_table, lifted)))

  -- a value of Even's is at most the prog of each successor
  asked : (t : ℕ) → Contains x.successors t → (r : Measure) → IsProg g x.priority (value_at table t) r → IsAtMost (value_at table v) r
  asked t has r is = elim (at_most_or_below r (value_at table v)) [ inl w ↦ absurd (never_less t has r is w) | inr w ↦ w ]

  abbrev pub Reached : ℕ → Type 0
  Reached t = Reaches g x.priority (value_at table t) (value_at table v)

  -- what has the least prog is reached, where something is
  reached_by : (t u : ℕ) → Contains x.successors t → Reached t → IsLeastSuccessor g table x u → Reached u
  reached_by t u has reached other =
      let m = prog g x.priority (value_at table u) (measured u) in
      let n = prog g x.priority (value_at table t) (measured t) in
      let less = at_most_trans m.0 n.0 (value_at table v) (other.least t has m.0 n.0 m.1 n.1) (n.1.least (value_at table v) (measured v) reached) in
      reaches_up g x.priority (value_at table u) m.0 (value_at table v) m.1.reaches less

  module _ (k : ℕ) (before : (i : ℕ) → i < k → Reached (slice_index x.successors i) → ⊥) where
    -- nothing that is reached stands before place k
    not_sooner : (u : ℕ) → Contains x.successors u → Reached u → (j : ℕ) × (k ≤ j) × (j < length x.successors) × (slice_index x.successors j ≡ u)
    not_sooner u (j, l, e) reached =
        let same : slice_index x.successors j ≡ u = get_or_default x.successors j 0 u l ∙ e in
        elim (leb_tells k j) [
          | inl w ↦ (j, w.1, l, same)
          | inr w ↦ absurd (before j w.1 (subst Reached (sym same) reached))
        ]

    -- the first that is reached is the least of those with the least prog
    pub first_reached : (t : ℕ) → k < length x.successors → slice_index x.successors k ≡ t → Reached t
        → IsLeastSuccessor g table x t × ((u : ℕ) → IsLeastSuccessor g table x u → t ≤ u)
    first_reached t h e reached =
        let has = place_contained x.successors k t h e in (
          record {
            successor = has;
            least = λ u c m r i j. at_most_trans m (value_at table v) r (i.least (value_at table v) (measured v) reached) (asked u c r j);
          },
          λ u other. (
              let w = not_sooner u other.successor (reached_by t u has reached other) in
              let up = (all_got (IsVertex (length g.vertices)) g.vertices v x game.vertices at).ascending in
              let rises = ascending_at x.successors k w.0 up w.1 w.2 in
              let same = w.3 in
              omega (arith, rises, e, same)),
        )

    -- one of them is reached, so the last is, where none before it is
    pub last_reached : (t : ℕ) → length x.successors ≡ suc k → slice_index x.successors k ≡ t
        → IsLeastSuccessor g table x t × ((u : ℕ) → IsLeastSuccessor g table x u → t ≤ u)
    last_reached t h e =
        let s = even_reaches g table game least.progress v x at own in
        let w = not_sooner s.0 s.1.successor s.2 in
        let place : w.0 ≡ k = let a = w.1 in let b = w.2 in omega arith in
        let same : s.0 ≡ t = sym w.3 ∙ (ap (slice_index x.successors) place ∙ e) in
        first_reached t (omega arith) e (subst Reached same s.2)

-- ------------------------------------------------------------------ by what the game tells of a vertex

module _ (now : GameTable) (is : IsSettled now) (g : Game) (same : now.game ≡ g) (v : ℕ) (h : v < length g.vertices) (p : ℕ) (ts : List ℕ)
    (owner : option_map (λ x. x.owner) (vertex g v) ≡ Some Even) (priority : option_map (λ x. x.priority) (vertex g v) ≡ Some p)
    (successors : option_map (λ x. x.successors) (vertex g v) ≡ Some ts) where
  abbrev At : ℕ → ℕ → Type 0
  At q t = Reaches g q (value_at now.values t) (value_at now.values v)

  game_is : IsGame g
  game_is = subst IsGame same is.game

  least_is : IsLeastTable g now.values
  least_is = subst (λ (k : Game). IsLeastTable k now.values) same is.least

  pub successors_are : AllByRecursion (λ t. t < length now.values) ts × (0 < length ts)
  successors_are =
      let long : length g.vertices ≡ length now.values = sym least_is.progress.0.0 in
      subst (λ n. AllByRecursion (λ t. t < n) ts × (0 < length ts)) long (its_successors g game_is v h ts successors)

  module _ (k : ℕ) (before : (i : ℕ) → i < k → At p (slice_index ts i) → ⊥) (x : Vertex) (at : vertex g v ≡ Some x) where
    own : x.owner ≡ Even
    own = vertex_tells (λ (y : Vertex). y.owner) g v Even x at owner

    priority_is : x.priority ≡ p
    priority_is = vertex_tells (λ (y : Vertex). y.priority) g v p x at priority

    are : x.successors ≡ ts
    are = vertex_tells (λ (y : Vertex). y.successors) g v ts x at successors

    not_before : (i : ℕ) → i < k → At x.priority (slice_index x.successors i) → ⊥
    not_before i l r = before i l (subst (λ q. At q (slice_index ts i)) priority_is (subst (λ us. At x.priority (slice_index us i)) are r))

    pub best_first : k < length ts → At p (slice_index ts k)
        → IsLeastSuccessor g now.values x (slice_index ts k) × ((u : ℕ) → IsLeastSuccessor g now.values x u → slice_index ts k ≤ u)
    best_first l r =
        first_reached g game_is now.values least_is v x at own k not_before (slice_index ts k) (subst (λ us. k < length us) (sym are) l)
        (ap (λ us. slice_index us k) are) (subst (λ q. At q (slice_index ts k)) (sym priority_is) r)

    pub best_last : length ts ≡ suc k
        → IsLeastSuccessor g now.values x (slice_index ts k) × ((u : ℕ) → IsLeastSuccessor g now.values x u → slice_index ts k ≤ u)
    best_last e =
        last_reached g game_is now.values least_is v x at own k not_before (slice_index ts k) (ap length are ∙ e) (ap (λ us. slice_index us k) are)
