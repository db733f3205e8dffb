-- A strategy that wins for Even gives a progress table that isn't top on its set.
use Rattle.measures.proofs.Common.{◌≡◌, ◌≢◌, ℕ, ◌<◌, ◌≤◌, Bool, true, false, List, length, map, refl, sym, ap, subst, ◌∙◌, inl, inr, arith, IsTrue, Some}
use Rattle.measures.proofs.Common.{AllZip, range_with_len, length-map-range_with_len, get_or-map-range_with_len, slice_get_within, Player, Even, Odd, Vertex}
use Rattle.measures.proofs.Common.{Game, vertex, count, greatest, Edge, IsStrategy, Wins, priority_at, Measure, Top, Counts, components, IsMeasure, IsAtMost}
use Rattle.measures.proofs.Common.{Reaches, IsProg, is_odd, IsBestFor, IsProgress, IsTable, IsLiftAt, value_at}
use Rattle.measures.proofs.Lists.{all_map, zip_back, zip_from, zip_on}
use Rattle.measures.proofs.Measures.{at_most_top, at_most_trans, own_greater, reaches_over}
use Rattle.measures.proofs.Cycles.{priority}
use Rattle.measures.proofs.Visits.{ever, ever_bounded, ever_falls, ever_falls_there}
use Rattle.measures.proofs.Components.{odd_down_odd, over_down, below_greatest}

module _ (g : Game) (set : ℕ → Bool) (choice : ℕ → ℕ) (strategy : IsStrategy Even g set choice) where
  -- for each component how often it is met at most
  abbrev counts : ℕ → List ℕ
  counts v = map (λ p. ever g set choice strategy p v) (components g)

  abbrev given : Bool → ℕ → Measure
  given true v = Counts (counts v)
  given false v = Top

  abbrev table : List Measure
  table = map (λ v. given (set v) v) (range_with_len 0 (length g.vertices))

  at_table : (v : ℕ) → v < length g.vertices → value_at table v ≡ given (set v) v
  at_table v h = get_or-map-range_with_len (λ u. given (set u) u) 0 (length g.vertices) v v Top h (omega arith)

  at_set : (v : ℕ) → IsTrue (set v) → value_at table v ≡ Counts (counts v)
  at_set v h = at_table v (strategy.inside v h) ∙ ap (λ b. given b v) h

  is_measure : (b : Bool) (v : ℕ) → IsMeasure g (given b v)
  is_measure true v = zip_from (λ k p. k ≤ count g p) (λ p. is_odd p ≡ true) (λ p. ever g set choice strategy p v) (components g) (odd_down_odd (greatest g))
      (λ p. ever_bounded g set choice strategy p v)
  is_measure false v = tt

  is_table : IsTable g table
  is_table = (
    length-map-range_with_len (λ v. given (set v) v) 0 (length g.vertices),
    all_map (IsMeasure g) (λ v. given (set v) v) (range_with_len 0 (length g.vertices)) (λ v. is_measure (set v) v),
  )

  -- along the strategy's edges the values reach
  reaches : (v t : ℕ) → IsTrue (set v) → Edge Even g choice v t → Reaches g (priority g v) (value_at table t) (value_at table v)
  reaches v t h e =
      let o = over_down (priority g v) (λ p. ever g set choice strategy p t) (λ p. ever g set choice strategy p v)
      (λ p odd l. ever_falls g set choice strategy p v t odd h l e) (λ odd. ever_falls_there g set choice strategy (priority g v) v t odd h refl e)
      (greatest g) (λ odd. below_greatest g v) in
      subst (λ m. Reaches g (priority g v) m (value_at table v)) (sym (at_set t (strategy.closed v t h e)))
      (subst (λ m. Reaches g (priority g v) (Counts (counts t)) m) (sym (at_set v h)) (reaches_over g (priority g v) (counts t) (counts v) o))

  -- the best of the progs isn't above
  under : (v : ℕ) (x : Vertex) (progs : List Measure) (best : Measure) → IsTrue (set v) → vertex g v ≡ Some x → (o : Player) → x.owner ≡ o
      → AllZip (IsProg g x.priority) (map (value_at table) x.successors) progs → IsBestFor o progs best → IsAtMost best (value_at table v)
  under v x progs best h at Even own zipped b =
      let c = strategy.own v x h at own in
      let r = zip_on (IsProg g x.priority) (λ m. IsAtMost best m) (value_at table) x.successors progs (choice v) zipped b.1 c in
      let w = subst (λ q. Reaches g (priority_at q) (value_at table (choice v)) (value_at table v)) at (reaches v (choice v) h (x, at, inl (own, refl))) in
      at_most_trans best r.0 (value_at table v) r.2 (r.1.least (value_at table v) (measured v h) w)
    where
      measured : (v : ℕ) → IsTrue (set v) → IsMeasure g (value_at table v)
      measured v h = subst (IsMeasure g) (sym (at_set v h)) (is_measure true v)
  under v x progs best h at Odd own zipped b =
      let r = zip_back (IsProg g x.priority) (value_at table) x.successors progs best zipped b.0 in
      let e : Edge Even g choice v r.0 = (x, at, inr ((λ q. let w : Odd ≡ Even = sym own ∙ q in absurd cc), r.1)) in
      let w = subst (λ q. Reaches g (priority_at q) (value_at table r.0) (value_at table v)) at (reaches v r.0 h e) in
      r.2.least (value_at table v) (subst (IsMeasure g) (sym (at_set v h)) (is_measure true v)) w

  settles : (v : ℕ) (r : Measure) → IsLiftAt g table v r → r ≡ value_at table v
  settles v r (x, at, (progs, best, zipped, b, e)) = e ∙ own_greater (value_at table v) best (by (set v) refl)
    where
      by : (c : Bool) → set v ≡ c → IsAtMost best (value_at table v)
      by true i = under v x progs best i at x.owner refl zipped b
      by false i = subst (λ m. IsAtMost best m) (sym (at_table v (slice_get_within g.vertices v x at) ∙ ap (λ c. given c v) i)) (at_most_top best)

  pub strategy_table : (v : ℕ) → IsTrue (set v) → (t : List Measure) × IsProgress g t × (value_at t v ≢ Top)
  strategy_table v h = (table, (is_table, settles), (λ e. let q : Counts (counts v) ≡ Top = sym (at_set v h) ∙ e in absurd cc))

pub wins_table : (g : Game) (v : ℕ) → Wins g v → (t : List Measure) × IsProgress g t × (value_at t v ≢ Top)
wins_table g v w = strategy_table g w.set w.choice w.strategy v w.has
