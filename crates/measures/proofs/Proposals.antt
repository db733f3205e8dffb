-- Good proposals are least: no progress table has less than their values.
use Rattle.measures.proofs.Common.{◌≡◌, ℕ, zero, suc, ◌+◌, ◌-◌, ◌/◌, ◌<◌, ◌≤◌, ◌⊎◌, true, false, List, length, refl, sym, ap, subst, ◌∙◌, inl, inr}
use Rattle.measures.proofs.Common.{arith, true≢false, Some, eqb_tells, leb_tells, get_or_past, Ordering, Less, Equal, Greater, is_le, is_lt}
use Rattle.measures.proofs.Common.{nat_cmp, Player, Even, Odd, Vertex, Game, IsGame, IsVertex, greatest, vertex, opponent, priority_at, greatest_met, components}
use Rattle.measures.proofs.Common.{measure_cmp, Measure, Top, Counts, IsAtMost, IsBelow, IsMeasure, IsProgress, IsTable, Reaches, is_odd, kept, value_at, IsLeastTable}
use Rattle.measures.proofs.Common.{AllZip, AllZip-long, IsBestFor, IsLiftAt, IsProg, IsStill, length-map, map}
use Rattle.std.proofs.Common.{◌^◌, div-mul-le_self}
use Rattle.std.proofs.lemmas.Nat.{le-div, pow_pos, shr-shr}
use Rattle.measures.specs.Measure.{digit_of, counted_at, cut}
use Rattle.measures.specs.Proposal.{AreEnough, HasAllButOne, HasAsMuch, HeightFalls, IsGoodProposal, IsReason, IsRising, MatchUpTo, Proposal, ReachesEnough}
use Rattle.measures.specs.Proposal.{counted_of}
use Rattle.measures.proofs.Components.{below_greatest, odd_down_long, kept_is}
use Rattle.measures.proofs.Cuts.{below_between, below_counts, cut_all_below, cut_fewer, none_between_measures, digit_some, reaches_below, reaches_cut}
use Rattle.measures.proofs.Cycles.{no_odd_cycle, odd_or_even, priority}
use Rattle.measures.proofs.Levels.{level, no_even_cycle}
use Rattle.measures.proofs.Lifts.{best_for, even_reaches, odd_reaches, value_measure}
use Rattle.measures.proofs.Lists.{all_from, all_got, zip_back, zip_made, zip_on}
use Rattle.measures.proofs.Measures.{at_most_itself, at_most_or_below, at_most_trans, below_at_most, not_below, own_greater, prog}
use Rattle.measures.proofs.NotBoth.{cycle, path_weaker}
use Rattle.measures.proofs.Order.{compared}
use Rattle.measures.proofs.Settling.{table_still}

-- ------------------------------------------------------------------ orders, told

up_to : (m r : Measure) (P Q : Type 0) → MatchUpTo (measure_cmp m r) P Q → IsBelow m r ⊎ (IsAtMost m r × Q)
up_to m r P Q = by (measure_cmp m r) refl
  where
    by : (o : Ordering) → measure_cmp m r ≡ o → MatchUpTo o P Q → IsBelow m r ⊎ (IsAtMost m r × Q)
    by Less e h = inl (ap is_lt e)
    by Equal e h = inr (ap is_le e, h)
    by Greater e h = absurd h

-- with fewer bits the order stays
coarser : (a b j k : ℕ) → j ≤ k → a / 2 ^ j ≤ b / 2 ^ j → a / 2 ^ k ≤ b / 2 ^ k
coarser a b j k h le =
    let d = k - j in
    let e : j + d ≡ k = omega arith in
    let least : (x y : ℕ) → x ≤ y → x / 2 ^ d ≤ y / 2 ^ d =
    λ x y l. le-div (x / 2 ^ d) y (2 ^ d) (pow_pos d) (let m = div-mul-le_self x (2 ^ d) in omega (arith, m, l)) in
    subst (λ i. a / 2 ^ i ≤ b / 2 ^ i) e
    (subst (λ x. x ≤ b / 2 ^ (j + d)) (shr-shr a j d) (subst (λ y. a / 2 ^ j / 2 ^ d ≤ y) (shr-shr b j d) (least (a / 2 ^ j) (b / 2 ^ j) le)))

rises : (c : Proposal) → IsRising c → (q p : ℕ) → p ≤ q → c.shift p ≤ c.shift q
rises c rising zero p h = let e : p ≡ 0 = omega arith in subst (λ n. c.shift p ≤ c.shift n) e (omega arith)
rises c rising (suc q) p h = elim (eqb_tells p (suc q)) [
  | inl w ↦ subst (λ n. c.shift p ≤ c.shift n) w.1 (omega arith)
  | inr w ↦ (let n = w.1 in let a = rises c rising q p (omega arith) in let b = rising q in omega arith)
]

-- ------------------------------------------------------------------ no lift raises a value that reaches enough

module _ (g : Game) (game : IsGame g) (values : List Measure) (table : IsTable g values) (v : ℕ) (measure : IsMeasure g (value_at values v)) where
  abbrev own : Measure
  own = value_at values v

  under : (x : Vertex) (o : Player) (progs : List Measure) (best : Measure) → AllZip (IsProg g x.priority) (map (value_at values) x.successors) progs
      → IsBestFor o progs best → AreEnough (opponent o) (λ t. Reaches g x.priority (value_at values t) own) x.successors → IsAtMost best own
  under x Even progs best zipped is enough =
      let there = zip_on (IsProg g x.priority) (λ m. IsAtMost best m) (value_at values) x.successors progs enough.0 zipped is.1 enough.1 in
      at_most_trans best there.0 own there.2 (there.1.least own measure enough.2)
  under x Odd progs best zipped is enough =
      let back = zip_back (IsProg g x.priority) (value_at values) x.successors progs best zipped is.0 in
      back.2.least own measure (enough back.0 back.1)

  still : ReachesEnough g values v → IsStill g values v
  still (x, at, enough) =
      let some : 1 ≤ length x.successors = (all_got (IsVertex (length g.vertices)) g.vertices v x game.vertices at).some in
      let made = zip_made (IsProg g x.priority) (value_at values) x.successors (λ t. prog g x.priority (value_at values t) (value_measure g values table.1 t)) in
      let long : length made.0 ≡ length x.successors = AllZip-long (IsProg g x.priority) (map (value_at values) x.successors) made.0 made.1
      ∙ length-map x.successors (value_at values) in
      let best = best_for x.owner made.0 (omega (arith, some, long)) in
      subst (IsLiftAt g values v) (own_greater own best.0 (under x x.owner made.0 best.0 made.1 best.1 enough))
      (x, at, (made.0, best.0, made.1, best.1, refl))

-- ------------------------------------------------------------------ a progress table beside the values

module _ (c : Proposal) (game : IsGame c.game) (progress : IsProgress c.game c.values) (good : IsGoodProposal c) (other : List Measure) (is : IsProgress c.game other) where
  abbrev g : Game
  g = c.game

  abbrev high : ℕ → Measure
  high v = value_at c.values v

  abbrev low : ℕ → Measure
  low v = value_at other v

  high_measure : (v : ℕ) → IsMeasure g (high v)
  high_measure v = value_measure g c.values progress.0.1 v

  low_measure : (v : ℕ) → IsMeasure g (low v)
  low_measure v = value_measure g other is.0.1 v

  -- up to this digit the value at v is greater than the progress table's
  abbrev Above : ℕ → ℕ → Type 0
  Above k v = IsBelow (cut k (low v)) (cut k (high v))

  inside : (k v : ℕ) → Above k v → v < length g.vertices
  inside k v above = elim (leb_tells (length other) v) [
    | inl w ↦ (
        let d = below_counts k (low v) (high v) above in
        let e : Top ≡ Counts d.counts = sym (get_or_past other v Top w.1) ∙ d.is in
        absurd cc)
    | inr w ↦ (let l = w.1 in let e = is.0.0 in omega arith)
  ]

  -- where v counts at the digit itself the other value falls
  fallen : (k u t : ℕ) → k ≤ length (components g) → Above k u → Reaches g (priority g u) (low t) (low u) → priority g u ≡ counted_at g k
      → IsBelow (cut k (low t)) (cut k (low u))
  fallen k u t within above reaches e =
      let p = priority g u in
      let d = below_counts k (low u) (high u) above in
      let kept_here : kept g p ≡ k = let q = kept_is g p in omega arith in
      let odd : is_odd p ≡ true = elim (odd_or_even p) [ inl w ↦ w.0 | inr w ↦ (let n = w.1 in absurd (omega arith)) ] in
      subst (λ n. IsBelow (cut n (low t)) (cut n (low u))) kept_here
      (subst (λ m. IsBelow (cut (kept g p) (low t)) (cut (kept g p) m)) (sym d.is)
      (reaches_below g p (low t) d.counts odd (subst (λ m. Reaches g p (low t) m) d.is reaches)))

  -- and so the value at t, which has as much but for one, isn't at most the other
  added : (k u t : ℕ) → k ≤ length (components g) → Above k u → Reaches g (priority g u) (low t) (low u) → priority g u ≡ counted_at g k
      → HasAllButOne c.values k u t → IsAtMost (cut k (high t)) (cut k (low t)) → ⊥
  added zero u t within above reaches e all h = (let m = below_greatest g u in let l = odd_down_long (greatest g) in omega arith)
  added (suc j) u t within above reaches e all h =
      let less = fallen (suc j) u t within above reaches e in
      let here : suc j - 1 ≡ j = omega arith in
      elim (up_to (cut j (high u)) (cut j (high t)) (Unit {0}) (digit_of (high u) (suc j) ≤ digit_of (high t) (suc j) + 1)
      (subst (λ i. MatchUpTo (measure_cmp (cut i (high u)) (cut i (high t))) (Unit {0}) (digit_of (high u) (suc j) ≤ digit_of (high t) (suc j) + 1)) here all)) [
        | inl w ↦ not_below (cut j (high u)) (cut j (high t)) w
            (cut_fewer j (suc j) (high t) (high u) (omega arith)
            (at_most_trans (cut (suc j) (high t)) (cut (suc j) (low t)) (cut (suc j) (high u)) h
            (at_most_trans (cut (suc j) (low t)) (cut (suc j) (low u)) (cut (suc j) (high u))
            (below_at_most (cut (suc j) (low t)) (cut (suc j) (low u)) less) (below_at_most (cut (suc j) (low u)) (cut (suc j) (high u)) above))))
        | inr w ↦ none_between_measures g j (high t) (low u) (high u) (high_measure t) (low_measure u) (high_measure u)
            (below_between (cut (suc j) (high t)) (cut (suc j) (low t)) (cut (suc j) (low u)) (cut (suc j) (low u)) h less
            (at_most_itself (cut (suc j) (low u)))) above w.0 w.1
      ]

  module _ (k : ℕ) (within : k ≤ length (components g)) (none : (j v : ℕ) → k ≡ suc j → Above j v → ⊥) where
    record Step (u t : ℕ) : Type 0 where
      above : Above k u
      reaches : Reaches g (priority g u) (low t) (low u)
      reason : IsReason c k (priority g u) u t

    -- u doesn't count at the digit, and t has as much
    record IsTied (u t : ℕ) : Type 0 where
      before : priority g u < counted_at g k
      at_most : IsAtMost (cut k (high u)) (cut k (high t))
      falls : IsBelow (cut k (high u)) (cut k (high t)) ⊎ HeightFalls c k (priority g u) u t

    tied : (u t : ℕ) → priority g u < counted_at g k → HasAsMuch c k (priority g u) u t → IsTied u t
    tied u t before much = elim (up_to (cut k (high u)) (cut k (high t)) (Unit {0}) (HeightFalls c k (priority g u) u t) much) [
      | inl w ↦ record { before = before; at_most = below_at_most (cut k (high u)) (cut k (high t)) w; falls = inl w }
      | inr w ↦ record { before = before; at_most = w.0; falls = inr w.1 }
    ]

    how : (u t : ℕ) → IsReason c k (priority g u) u t → IsTied u t ⊎ ((priority g u ≡ counted_at g k) × HasAllButOne c.values k u t)
    unfolding IsReason
    how u t reason =
        let p = priority g u in
        let told : (o : Ordering) → nat_cmp p (counted_at g k) ≡ o → MatchUpTo o (HasAsMuch c k p u t) (HasAllButOne c.values k u t) =
        λ o e. subst (λ o. MatchUpTo o (HasAsMuch c k p u t) (HasAllButOne c.values k u t)) e reason in
        elim (compared p (counted_at g k)) [
          | inl w ↦ inl (tied u t w.1 (told Less w.0))
          | inr w ↦ elim w [ inl e ↦ inr (e.1, told Equal e.0) | inr b ↦ absurd (told Greater b.0) ]
        ]

    low_falls : (u t : ℕ) → Step u t → IsAtMost (cut k (low t)) (cut k (low u))
    low_falls u t s =
        let p = priority g u in
        let q = kept_is g p in
        reaches_cut g p k (low t) (low u) (elim (how u t s.reason) [
          | inl tie ↦ (let l = tie.before in omega arith)
          | inr add ↦ (let e = add.0 in omega arith)
        ]) s.reaches

    above_next : (u t : ℕ) → Step u t → Above k t
    above_next u t s = elim (how u t s.reason) [
      | inl tie ↦ below_between (cut k (low t)) (cut k (low u)) (cut k (high u)) (cut k (high t)) (low_falls u t s) s.above tie.at_most
      | inr add ↦ elim (at_most_or_below (cut k (low t)) (cut k (high t))) [
        | inl h ↦ h
        | inr l ↦ absurd (added k u t within s.above s.reaches add.0 add.1 l)
      ]
    ]

    -- ---------------------------------------------------------------- one can always go on

    go : (v : ℕ) (x : Vertex) (o : Player) → Above k v → vertex g v ≡ Some x → x.owner ≡ o → AreEnough o (IsReason c k x.priority v) x.successors
        → (t : ℕ) × Reaches g x.priority (low t) (low v) × IsReason c k x.priority v t
    go v x Even above at own enough =
        let r = even_reaches g other game is v x at own in
        (r.0, r.2, enough r.0 r.1.successor)
    go v x Odd above at own (t, has, reason) = (t, odd_reaches g other game is v x at own t has, reason)

    on : (v : ℕ) → Above k v → (t : ℕ) × Step v t × Above k t
    on v above =
        let some = digit_some g k (low v) (high v) (low_measure v) (high_measure v) above (λ j e. elim (at_most_or_below (cut j (low v)) (cut j (high v))) [
          | inl h ↦ absurd (none j v e h)
          | inr l ↦ l
        ]) in
        let r = (good.vertices v (inside k v above)).reasons k within some in
        let next = go v r.0 r.0.owner above r.1 refl r.2 in
        let step : Step v next.0 = record {
          above = above;
          reaches = subst (λ o. Reaches g (priority_at o) (low next.0) (low v)) (sym r.1) next.1;
          reason = subst (λ o. IsReason c k (priority_at o) v next.0) (sym r.1) next.2;
        } in
        (next.0, step, above_next v next.0 step)

    -- ---------------------------------------------------------------- what never rises along steps

    record Le (a b : ℕ) : Type 0 where
      lesser : IsAtMost (cut k (low a)) (cut k (low b))
      value : IsAtMost (cut k (low b)) (cut k (low a)) → IsAtMost (cut k (high b)) (cut k (high a))

    itself : (u : ℕ) → Le u u
    itself u = record {
      lesser = at_most_itself (cut k (low u));
      value = λ h. at_most_itself (cut k (high u));
    }

    trans : (a b d : ℕ) → Le a b → Le b d → Le a d
    trans a b d h i =
        let first = at_most_trans (cut k (low b)) (cut k (low d)) (cut k (low a)) i.lesser in
        let second = λ (back : IsAtMost (cut k (low d)) (cut k (low a))). at_most_trans (cut k (low d)) (cut k (low a)) (cut k (low b)) back h.lesser in
        record {
          lesser = at_most_trans (cut k (low a)) (cut k (low b)) (cut k (low d)) h.lesser i.lesser;
          value = λ back. at_most_trans (cut k (high d)) (cut k (high b)) (cut k (high a)) (i.value (second back)) (h.value (first back));
        }

    tied_by : (u t : ℕ) → Step u t → IsAtMost (cut k (low u)) (cut k (low t)) → IsTied u t
    tied_by u t s back = elim (how u t s.reason) [
      | inl tie ↦ tie
      | inr add ↦ absurd (not_below (cut k (low t)) (cut k (low u)) (fallen k u t within s.above s.reaches add.0) back)
    ]

    falls : (u t : ℕ) → Step u t → Le t u
    falls u t s = record {
      lesser = low_falls u t s;
      value = λ back. (tied_by u t s back).at_most;
    }

    record Flat (u t : ℕ) : Type 0 where
      reaches : Reaches g (priority g u) (low t) (low u)
      height : HeightFalls c k (priority g u) u t

    flat : (u t : ℕ) → Step u t × Le u t → Flat u t
    flat u t (s, l) =
        let tied = tied_by u t s l.lesser in
        record {
          reaches = s.reaches;
          height = elim tied.falls [
            | inl b ↦ absurd (not_below (cut k (high u)) (cut k (high t)) b (l.value (low_falls u t s)))
            | inr f ↦ f
          ];
        }

    none_above : (v : ℕ) → Above k v → ⊥
    none_above v above =
        let r = cycle Step (Above k) (length g.vertices) (inside k) on v above in
        let path = path_weaker (λ a b. Step a b × Le a b) Flat flat r.at r.others r.at (level Step Le itself trans falls r.at r.others r.path) in
        let d = below_counts k (low r.at) (high r.at) r.is_in in
        elim (odd_or_even (greatest_met g r.others)) [
          | inl w ↦ no_odd_cycle g Flat low (λ u t s. s.reaches) r.at r.others d.counts d.is r.some path w.0
          | inr w ↦ no_even_cycle g Flat (λ q u. counted_of c k q u) weakly strictly r.at r.others r.some path w.0
        ]
      where
        weakly : (q u t : ℕ) → Flat u t → priority g u ≤ q → counted_of c k q t ≤ counted_of c k q u
        weakly q u t s h = coarser _ _ (c.shift (priority g u)) (c.shift q) (rises c good.rising q (priority g u) h)
            (elim s.height [ inl l ↦ omega arith | inr w ↦ (let e = w.0 in omega arith) ])

        strictly : (u t : ℕ) → Flat u t → is_odd (priority g u) ≡ false → counted_of c k (priority g u) t < counted_of c k (priority g u) u
        strictly u t s e = elim s.height [ inl l ↦ l | inr w ↦ absurd (true≢false (sym w.1 ∙ e)) ]

  empty : (k : ℕ) → k ≤ length (components g) → (v : ℕ) → Above k v → ⊥
  empty zero within = none_above 0 within (λ j v e above. absurd cc)
  empty (suc k) within = none_above (suc k) within (λ j v e. empty_below k j e (empty k (omega arith)) v)
    where
      empty_below : (k j : ℕ) → suc k ≡ suc j → ((v : ℕ) → Above k v → ⊥) → (v : ℕ) → Above j v → ⊥
      empty_below k j e = let same : k ≡ j = omega arith in subst (λ i. ((v : ℕ) → Above k v → ⊥) → (v : ℕ) → Above i v → ⊥) same (λ h. h)

  pub least_under : (v : ℕ) → IsAtMost (high v) (low v)
  least_under v = elim (at_most_or_below (low v) (high v)) [
    | inl b ↦ absurd (empty (length (components g)) (omega arith) v (cut_all_below g (low v) (high v) (low_measure v) (high_measure v) b))
    | inr l ↦ l
  ]

pub good_least : (c : Proposal) → IsGame c.game → IsGoodProposal c → IsLeastTable c.game c.values
good_least c game good =
    let table : IsTable c.game c.values = (good.long, all_from (IsMeasure c.game) c.values Top (λ v h. (good.vertices v (omega (arith, good.long, h))).measure)) in
    let progress = table_still c.game c.values table (λ v h. let at = good.vertices v h in still c.game game c.values table v at.measure at.reaches) in
    record { progress = progress; under = λ v h other is. least_under c game progress good other is v }
