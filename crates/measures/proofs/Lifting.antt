-- Lifting one vertex after another.
use Rattle.measures.proofs.Common.{◌≢◌, ℕ, ◌+◌, ◌*◌, ◌<◌, ◌≤◌, List, [], ◌∷◌, length, sym, subst, ◌∙◌, inl, inr, arith, leb_tells, eqb_tells, ext_get_or}
use Rattle.measures.proofs.Common.{Game, IsGame, Measure, Top, IsMeasure, IsAtMost, IsLeastTable, IsProgress, IsTable, opening, value_at, sum_of, IsLifted}
use Rattle.measures.proofs.Common.{AreLifts, AreRises, height, rank}
use Rattle.measures.proofs.Lists.{all_from}
use Rattle.measures.proofs.Measures.{at_most_itself}
use Rattle.measures.proofs.Lifts.{value_measure}
use Rattle.measures.proofs.Rests.{total_bounded, total_more, total_same}
use Rattle.measures.proofs.Monotone.{LiesUnder, lift_measure, lift_rises, lift_under}
use Rattle.measures.proofs.Ranks.{rank_bounded, rank_more, rank_same}
use Rattle.measures.proofs.Opening.{opening_table, opening_under}

lifted_under : (g : Game) (table new other : List Measure) → IsGame g → IsProgress g other → LiesUnder table other → IsLifted g table new → LiesUnder new other
lifted_under g table new other game is h l v = elim (eqb_tells v l.at) [
  | inl w ↦ subst (λ u. IsAtMost (value_at new u) (value_at other u)) (sym w.1) (lift_under g table other game is h l.at (value_at new l.at) l.lift)
  | inr w ↦ subst (λ m. IsAtMost m (value_at other v)) (sym (l.others v w.1)) (h v)
]

lifts_under : (g : Game) (table : List Measure) (tables : List (List Measure)) (end other : List Measure) → IsGame g → IsProgress g other
    → LiesUnder table other → AreLifts g table tables end → LiesUnder end other
lifts_under g table [] end other game is h l = subst (λ t. LiesUnder t other) l h
lifts_under g table (new ∷ tables) end other game is h l = lifts_under g new tables end other game is (lifted_under g table new other game is h l.0) l.1

pub lifting_least : (g : Game) → IsGame g → (tables : List (List Measure)) (table : List Measure) → AreLifts g (opening g) tables table → IsProgress g table
    → IsLeastTable g table
lifting_least g game tables table l is = record {
  progress = is;
  under = λ v h other o. lifts_under g (opening g) tables table other game o (opening_under g game other o) l v;
}

pub lifted_rises : (g : Game) (table new : List Measure) → IsLifted g table new → LiesUnder table new
lifted_rises g table new l v = elim (eqb_tells v l.at) [
  | inl w ↦ subst (λ u. IsAtMost (value_at table u) (value_at new u)) (sym w.1) (lift_rises g table l.at (value_at new l.at) l.lift)
  | inr w ↦ subst (λ m. IsAtMost (value_at table v) m) (sym (l.others v w.1)) (at_most_itself (value_at table v))
]

pub lifted_table : (g : Game) (table new : List Measure) → IsTable g table → IsLifted g table new → IsTable g new
lifted_table g table new is l = (l.long ∙ is.0, all_from (IsMeasure g) new Top at)
  where
    at : (v : ℕ) → v < length new → IsMeasure g (value_at new v)
    at v h = elim (eqb_tells v l.at) [
      | inl w ↦ subst (λ u. IsMeasure g (value_at new u)) (sym w.1) (lift_measure g table is l.at (value_at new l.at) l.lift)
      | inr w ↦ subst (IsMeasure g) (sym (l.others v w.1)) (value_measure g table is.1 v)
    ]

-- a greater table has a greater sum of ranks
pub sum_above : (g : Game) (table new : List Measure) → IsTable g table → IsTable g new → LiesUnder table new → table ≢ new → sum_of g table < sum_of g new
sum_above g table new is are under differs = elim (leb_tells n o) [
  | inl w ↦ absurd (differs (ext_get_or Top table new (is.0 ∙ sym are.0)
      (λ v h. rank_same g (value_at table v) (value_at new v) (measured v) (measured' v) (under v) (by w.1 v (let e = is.0 in omega arith)))))
  | inr w ↦ w.1
]
  where
    o : ℕ
    o = sum_of g table

    n : ℕ
    n = sum_of g new

    measured : (v : ℕ) → IsMeasure g (value_at table v)
    measured v = value_measure g table is.1 v

    measured' : (v : ℕ) → IsMeasure g (value_at new v)
    measured' v = value_measure g new are.1 v

    by : sum_of g new ≤ sum_of g table → (v : ℕ) → v < length g.vertices → rank g (value_at new v) ≤ rank g (value_at table v)
    by h = total_same (λ v. rank g (value_at table v)) (λ v. rank g (value_at new v)) (length g.vertices)
        (λ v. rank_more g (value_at table v) (value_at new v) (measured v) (measured' v) (under v)) h

-- and one that is nowhere less no lesser one
pub sum_least : (g : Game) (table new : List Measure) → IsTable g table → IsTable g new → LiesUnder table new → sum_of g table ≤ sum_of g new
sum_least g table new is are under =
    total_more (λ v. rank g (value_at table v)) (λ v. rank g (value_at new v)) (length g.vertices)
    (λ v. rank_more g (value_at table v) (value_at new v) (value_measure g table is.1 v) (value_measure g new are.1 v) (under v))

-- a lift that changes the table raises the sum of its ranks
pub sum_rises : (g : Game) (table new : List Measure) → IsTable g table → IsLifted g table new → table ≢ new → sum_of g table < sum_of g new
sum_rises g table new is l differs = sum_above g table new is (lifted_table g table new is l) (lifted_rises g table new l) differs

rises_few : (g : Game) (table : List Measure) (tables : List (List Measure)) (end : List Measure) → IsTable g table → AreRises g table tables end
    → length tables + sum_of g table ≤ length g.vertices * height g
rises_few g table [] end is l = let r = total_bounded (λ v. rank g (value_at table v)) (height g) (length g.vertices)
    (λ v h. rank_bounded g (value_at table v) (value_measure g table is.1 v)) in omega (arith, r)
rises_few g table (new ∷ tables) end is l =
    let r = rises_few g new tables end (lifted_table g table new is l.0) l.2 in
    let s = sum_rises g table new is l.0 l.1 in
    omega (arith, r, s)

pub lifting_ends : (g : Game) (tables : List (List Measure)) (table : List Measure) → AreRises g (opening g) tables table
    → length tables ≤ length g.vertices * height g
lifting_ends g tables table l = let r = rises_few g (opening g) tables table (opening_table g) l in omega (arith, r)
