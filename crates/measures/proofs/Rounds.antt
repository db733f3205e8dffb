-- Two tables with a lift of each vertex between them, of which the second is nowhere less: where their sums of ranks are equal, they are the least progress
-- table.
use Rattle.measures.proofs.Common.{◌≡◌, ℕ, zero, suc, ◌+◌, ◌<◌, ◌≤◌, List, length, map, refl, sym, ap, subst, ◌∙◌, arith, AllZip, ext_get_or, slice_set}
use Rattle.measures.proofs.Common.{Vertex, Game, IsGame, rank, sum_of, total, Measure, Top, IsAtMost, IsProg, IsBestFor, IsLeastTable, IsLiftAt, IsTable}
use Rattle.measures.proofs.Common.{greater_of, value_at, IsPlain, IsStill}
use Rattle.measures.specs.Progress.{IsOverLift, LiesUnder}
use Rattle.measures.proofs.Bests.{vertex_here}
use Rattle.measures.proofs.Gathering.{greater_up}
use Rattle.measures.proofs.Lifts.{value_measure}
use Rattle.measures.proofs.Measures.{at_most_both, at_most_trans}
use Rattle.measures.proofs.Monotone.{best_more, lift_at, lift_rises}
use Rattle.measures.proofs.Plain.{value_set_other, value_set_same}
use Rattle.measures.proofs.Ranks.{rank_more, rank_same}
use Rattle.measures.proofs.Rests.{total_more, total_same}
use Rattle.measures.proofs.Settling.{all_still, plain_table}

total_alike : (h k : ℕ → ℕ) (n : ℕ) → ((v : ℕ) → v < n → h v ≡ k v) → total h n ≡ total k n
total_alike h k zero f = refl
total_alike h k (suc n) f = let r = total_alike h k n (λ v l. f v (omega arith)) in let s = f n (omega arith) in omega (arith, r, s)

-- one value more is summed, which was written meanwhile
pub sum_next : (g : Game) (values : List Measure) (v : ℕ) (m : Measure) → v < length values
    → total (λ u. rank g (value_at (slice_set values v m) u)) (suc v) ≡ rank g m + total (λ u. rank g (value_at values u)) v
sum_next g values v m h =
    let here : rank g (value_at (slice_set values v m) v) ≡ rank g m = ap (rank g) (value_set_same values v m h) in
    let rest = total_alike (λ u. rank g (value_at (slice_set values v m) u)) (λ u. rank g (value_at values u)) v
    (λ u l. ap (rank g) (value_set_other values v u m (λ e. omega (arith, l, e)))) in
    omega (arith, here, rest)

-- what is at least the lift of a greater table is at least that of a lesser one
pub over_lesser : (g : Game) (lesser greater : List Measure) (v : ℕ) (m : Measure) → IsGame g → IsTable g greater → LiesUnder lesser greater
    → IsOverLift g greater v m → IsOverLift g lesser v m
over_lesser g lesser greater v m game is under over r (x, at, (progs, b, zipped, best, e)) = by (lift_at g game greater is v x at)
  where
    by : (s : Measure) × IsLiftAt g greater v s → IsAtMost r m
    by (s, (y, here, (rises, c, zips, more, q))) =
        let same : y ≡ x = cc (at, here) in
        let low = best_more g x.priority (value_at lesser) (value_at greater) under x.successors x.owner progs rises b c zipped
        (subst (λ (z : Vertex). AllZip (IsProg g z.priority) (map (value_at greater) z.successors) rises) same zips) best
        (subst (λ (z : Vertex). IsBestFor z.owner rises c) same more) in
        at_most_trans r s m (subst (λ (n : Measure). IsAtMost n s) (sym e)
        (subst (IsAtMost (greater_of (value_at lesser v) b)) (sym q) (greater_up (value_at lesser v) (value_at greater v) b c (under v) low)))
        (over s (y, here, (rises, c, zips, more, q)))

module _ (g : Game) (old new : List Measure) (is : IsTable g old) (will : IsTable g new) (under : LiesUnder old new) where
  -- what rises has a greater sum
  pub sum_under : sum_of g old ≤ sum_of g new
  sum_under = total_more (λ v. rank g (value_at old v)) (λ v. rank g (value_at new v)) (length g.vertices)
      (λ v. rank_more g (value_at old v) (value_at new v) (value_measure g old is.1 v) (value_measure g new will.1 v) (under v))

  -- and only what stays has the same
  pub same_sum : sum_of g new ≤ sum_of g old → old ≡ new
  same_sum h =
      let few = total_same (λ v. rank g (value_at old v)) (λ v. rank g (value_at new v)) (length g.vertices)
      (λ v. rank_more g (value_at old v) (value_at new v) (value_measure g old is.1 v) (value_measure g new will.1 v) (under v)) h in
      ext_get_or Top old new (is.0 ∙ sym will.0) (λ v l. rank_same g (value_at old v) (value_at new v) (value_measure g old is.1 v)
      (value_measure g new will.1 v) (under v) (few v (let e = is.0 in omega arith)))

pub rounds_least : (g : Game) (old new : List Measure) → IsPlain (record { game = g; values = old }) → IsPlain (record { game = g; values = new })
    → LiesUnder old new → sum_of g new ≡ sum_of g old
    → ((v : ℕ) → v < length g.vertices → IsOverLift g old v (value_at new v)) → IsLeastTable g new
rounds_least g old new was is under sum over = record {
  progress = all_still g new is (λ v h. still v h);
  under = λ v h. (is.below v h).under;
}
  where
    same : old ≡ new
    same = same_sum g old new (plain_table g old was) (plain_table g new is) under (omega (arith, sum))

    still : (v : ℕ) → v < length g.vertices → IsStill g new v
    still v h =
        let x = vertex_here g v h in
        let r = lift_at g is.game new (plain_table g new is) v x.0 x.1 in
        let low : IsAtMost r.0 (value_at new v) = over v h r.0 (subst (λ (t : List Measure). IsLiftAt g t v r.0) (sym same) r.1) in
        subst (IsLiftAt g new v) (at_most_both r.0 (value_at new v) low (lift_rises g new v r.0 r.1)) r.1
