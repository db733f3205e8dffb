-- Lifting from the opening table ends in the least progress table.
use Rattle.measures.proofs.Common.{◌≡◌, ℕ, zero, suc, ◌<◌, ◌≤◌, List, length, map, sym, subst, ◌∙◌, inl, inr, arith, range_with_len, leb_tells, get_or_past}
use Rattle.measures.proofs.Common.{ext_get_or, length-map-range_with_len, get_or-map-range_with_len, slice_get_within, slice_get_cases, Game, IsGame, Measure}
use Rattle.measures.proofs.Common.{Top, IsMeasure, IsAtMost, IsLeastTable, IsProgress, IsTable, IsLiftAt, value_at, opening, height, rank}
use Rattle.measures.proofs.Lifts.{value_measure}
use Rattle.measures.proofs.Rests.{rests}
use Rattle.measures.proofs.Lists.{all_map}
use Rattle.measures.proofs.Measures.{at_most_both, at_most_top}
use Rattle.measures.proofs.Monotone.{LiesUnder, lift_at, lift_measure, lift_one, lift_rises, lift_under}
use Rattle.measures.proofs.Ranks.{rank_bounded, rank_more, rank_same}
use Rattle.measures.proofs.Opening.{opening_table, opening_under}

module _ (g : Game) (game : IsGame g) where
  abbrev Table : Type 0
  Table = (t : List Measure) × IsTable g t

  -- the lift at v, if v is a vertex
  record Lifted (table : List Measure) (v : ℕ) : Type 0 where
    value : Measure
    measure : IsMeasure g value
    lift : v < length g.vertices → IsLiftAt g table v value

  lifted_at : (t : Table) (v : ℕ) → Lifted t.0 v
  lifted_at t v = elim ((slice_get_cases g.vertices v).1) [
    | inl w ↦ (let r = lift_at g game t.0 t.1 v w.0 w.2 in record { value = r.0; measure = lift_measure g t.0 t.1 v r.0 r.1; lift = λ h. r.1 })
    | inr w ↦ record { value = Top; measure = tt; lift = λ h. (let l = w.0 in absurd (omega arith)) }
  ]

  next_values : (t : Table) → List Measure
  next_values t = map (λ v. (lifted_at t v).value) (range_with_len 0 (length g.vertices))

  next_table : (t : Table) → IsTable g (next_values t)
  unfolding next_values
  next_table t = (
    length-map-range_with_len (λ v. (lifted_at t v).value) 0 (length g.vertices),
    all_map (IsMeasure g) (λ v. (lifted_at t v).value) (range_with_len 0 (length g.vertices)) (λ v. (lifted_at t v).measure),
  )

  next_lift : (t : Table) (v : ℕ) → v < length g.vertices → IsLiftAt g t.0 v (value_at (next_values t) v)
  unfolding next_values
  next_lift t v h = subst (IsLiftAt g t.0 v) (sym (get_or-map-range_with_len (λ u. (lifted_at t u).value) 0 (length g.vertices) v v Top h (omega arith)))
      ((lifted_at t v).lift h)

  abbrev step : Table → Table
  step t = (next_values t, next_table t)

  abbrev turn : ℕ → Table
  turn zero = (opening g, opening_table g)
  turn (suc k) = step (turn k)

  past : (t : Table) (v : ℕ) → length g.vertices ≤ v → value_at t.0 v ≡ Top
  past t v h = get_or_past t.0 v Top (let l = t.1.0 in omega arith)

  step_rises : (t : Table) (v : ℕ) → IsAtMost (value_at t.0 v) (value_at (next_values t) v)
  step_rises t v = elim (leb_tells (length g.vertices) v) [
    | inl w ↦ subst (λ m. IsAtMost (value_at t.0 v) m) (sym (past (step t) v w.1)) (at_most_top (value_at t.0 v))
    | inr w ↦ lift_rises g t.0 v (value_at (next_values t) v) (next_lift t v w.1)
  ]

  step_under : (t : Table) (other : List Measure) → IsProgress g other → LiesUnder t.0 other → LiesUnder (next_values t) other
  step_under t other is h v = elim (leb_tells (length g.vertices) v) [
    | inl w ↦ subst (λ m. IsAtMost (value_at (next_values t) v) m) (sym (past (other, is.0) v w.1)) (at_most_top (value_at (next_values t) v))
    | inr w ↦ lift_under g t.0 other game is h v (value_at (next_values t) v) (next_lift t v w.1)
  ]

  turn_under : (k : ℕ) (other : List Measure) → IsProgress g other → LiesUnder (turn k).0 other
  turn_under zero other is = opening_under g game other is
  turn_under (suc k) other is = step_under (turn k) other is (turn_under k other is)

  measured : (k v : ℕ) → IsMeasure g (value_at (turn k).0 v)
  measured k v = value_measure g (turn k).0 (turn k).1.1 v

  rested : (k : ℕ) × ((v : ℕ) → v < length g.vertices → rank g (value_at (turn (suc k)).0 v) ≤ rank g (value_at (turn k).0 v))
  rested = rests (λ k v. rank g (value_at (turn k).0 v)) (height g) (length g.vertices)
      (λ k v. rank_more g (value_at (turn k).0 v) (value_at (turn (suc k)).0 v) (measured k v) (measured (suc k) v) (step_rises (turn k) v))
      (λ k v h. rank_bounded g (value_at (turn k).0 v) (measured k v))

  settles : (k : ℕ) → ((v : ℕ) → v < length g.vertices → rank g (value_at (turn (suc k)).0 v) ≤ rank g (value_at (turn k).0 v)) → IsProgress g (turn k).0
  settles k h = (
    (turn k).1,
    λ v r lift. (
        let l = vertex_within v r lift in
        lift_one g (turn k).0 v r (value_at (turn (suc k)).0 v) lift (next_lift (turn k) v l)
        ∙ sym (rank_same g (value_at (turn k).0 v) (value_at (turn (suc k)).0 v) (measured k v) (measured (suc k) v) (step_rises (turn k) v) (h v l))),
  )
    where
      vertex_within : (v : ℕ) (r : Measure) → IsLiftAt g (turn k).0 v r → v < length g.vertices
      vertex_within v r (x, at, more) = slice_get_within g.vertices v x at

  pub least_exists : (table : List Measure) × IsLeastTable g table
  least_exists = ((turn rested.0).0, record { progress = settles rested.0 rested.1; under = λ v h other is. turn_under rested.0 other is v })

pub least_unique : (g : Game) (s t : List Measure) → IsLeastTable g s → IsLeastTable g t → s ≡ t
least_unique g s t h i =
    let a = h.progress.0.0 in
    let b = i.progress.0.0 in
    ext_get_or Top s t (omega (arith, a, b))
    (λ v l. (let w : v < length g.vertices = omega (arith, a, l)
    in at_most_both (value_at s v) (value_at t v) (h.under v w t i.progress) (i.under v w s h.progress)))
