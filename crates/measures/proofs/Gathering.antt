-- The best of what a vertex asks for at its successors, read one after another, each no less than it was before.
use Rattle.measures.proofs.Common.{◌≡◌, ℕ, suc, ◌<◌, ◌≤◌, ◌⊎◌, max, List, length, map, sym, subst, ◌∙◌, inl, inr, arith, eqb_tells, leb_tells, Contains, Some}
use Rattle.measures.proofs.Common.{slice_index, get_or_default, AllZip, Player, Even, Odd, Vertex, Game, IsGame, vertex, height, Measure, Top, IsMeasure}
use Rattle.measures.proofs.Common.{IsAtMost, IsProg, Reaches, IsBestFor, rank, option_map, true, false, nat_le, IsProgress, greater_of, value_at, LiesBelow}
use Rattle.measures.specs.Progress.{IsOverLift, IsUnder}
use Rattle.measures.proofs.Bests.{vertex_here, vertex_tells}
use Rattle.std.proofs.Common.{min}
use Rattle.measures.specs.Lifting.{better_of, of_rank, worst_of}
use Rattle.measures.proofs.Lists.{zip_back, zip_on}
use Rattle.measures.proofs.Lifts.{even_reaches, odd_reaches, value_measure}
use Rattle.measures.proofs.Measures.{at_most_itself, at_most_or_below, at_most_top, at_most_trans, greater_taken, own_greater, reaches_down, reaches_up}
use Rattle.measures.proofs.Measures.{top_last}
use Rattle.measures.proofs.Monotone.{greater_has, greater_rises}
use Rattle.measures.proofs.Numbers.{of_rank_max, of_rank_measure, of_rank_rank, of_rank_top, of_rank_up}

-- the measure reaches the values of the first successors: some value for Even, each for Odd
abbrev pub ReachesSome : Player → Game → ℕ → List ℕ → ℕ → List Measure → Measure → Type 0
ReachesSome Even g p ts i table m = (j : ℕ) × (j < i) × Reaches g p (value_at table (slice_index ts j)) m
ReachesSome Odd g p ts i table m = (j : ℕ) → j < i → Reaches g p (value_at table (slice_index ts j)) m

-- what was asked for at the first successors is over what the first table asks for, and under each progress table's value that reaches them
pub record IsGathered (o : Player) (g : Game) (p : ℕ) (ts : List ℕ) (i : ℕ) (first : List Measure) (best : ℕ) : Type 0 where
  pub low : best ≤ height g
  pub over : ReachesSome o g p ts i first (of_rank g best) ⊎ (of_rank g best ≡ Top)
  pub under : (table : List Measure) (m : Measure) → IsProgress g table → IsMeasure g m → ReachesSome o g p ts i table m → IsAtMost (of_rank g best) m

pub gathered_none : (o : Player) (g : Game) (p : ℕ) (ts : List ℕ) (first : List Measure) → IsGathered o g p ts 0 first (worst_of o g)
gathered_none Even g p ts first = record {
  low = omega arith;
  over = inr (of_rank_top g (height g) (omega arith));
  under = λ table m is h (j, l, r). absurd (omega (arith, l));
}
gathered_none Odd g p ts first = record {
  low = omega arith;
  over = inl (λ j l. absurd (omega (arith, l)));
  under = λ table m is h r. subst (λ (n : Measure). IsAtMost (of_rank g 0) n) (of_rank_rank g m h) (of_rank_up g 0 (rank g m) (omega arith));
}

-- One vertex more was read: it gave m, which is no less than what the first table has there, and is below.
module _ (g : Game) (p : ℕ) (ts : List ℕ) (i : ℕ) (first : List Measure) (best asked : ℕ) (m : Measure) (below : IsUnder g (slice_index ts i) m)
    (later : IsAtMost (value_at first (slice_index ts i)) m) (fits : asked ≤ height g) (prog : IsProg g p m (of_rank g asked)) where
  reached : Reaches g p (value_at first (slice_index ts i)) (of_rank g asked)
  reached = reaches_down g p (value_at first (slice_index ts i)) m (of_rank g asked) later prog.reaches

  -- what reaches a progress table's value there is at least what is asked for
  asked_under : (table : List Measure) (n : Measure) → IsProgress g table → IsMeasure g n → Reaches g p (value_at table (slice_index ts i)) n
      → IsAtMost (of_rank g asked) n
  asked_under table n is h r = prog.least n h (reaches_down g p m (value_at table (slice_index ts i)) n (below table is) r)

  gathered_even : IsGathered Even g p ts i first best → IsGathered Even g p ts (suc i) first (min best asked)
  gathered_even was = record { low = let l = was.low in omega arith; over = over (leb_tells best asked); under = under }
    where
      over : ((nat_le best asked ≡ true) × (best ≤ asked)) ⊎ ((nat_le best asked ≡ false) × (asked < best))
          → ReachesSome Even g p ts (suc i) first (of_rank g (min best asked)) ⊎ (of_rank g (min best asked) ≡ Top)
      over (inl w) =
          let same : best ≡ min best asked = let l = w.1 in omega arith in
          subst (λ (n : ℕ). ReachesSome Even g p ts (suc i) first (of_rank g n) ⊎ (of_rank g n ≡ Top)) same (elim was.over [
            | inl r ↦ inl (r.0, (let l = r.1 in omega arith), r.2)
            | inr e ↦ inr e
          ])
      over (inr w) =
          let same : asked ≡ min best asked = let l = w.1 in omega arith in
          subst (λ (n : ℕ). ReachesSome Even g p ts (suc i) first (of_rank g n) ⊎ (of_rank g n ≡ Top)) same (inl (i, omega arith, reached))

      under : (table : List Measure) (n : Measure) → IsProgress g table → IsMeasure g n → ReachesSome Even g p ts (suc i) table n
          → IsAtMost (of_rank g (min best asked)) n
      under table n is h (j, l, r) = elim (eqb_tells j i) [
        | inl w ↦ at_most_trans (of_rank g (min best asked)) (of_rank g asked) n (of_rank_up g (min best asked) asked (omega arith))
            (asked_under table n is h (subst (λ (k : ℕ). Reaches g p (value_at table (slice_index ts k)) n) w.1 r))
        | inr w ↦ at_most_trans (of_rank g (min best asked)) (of_rank g best) n (of_rank_up g (min best asked) best (omega arith))
            (was.under table n is h (j, (let d = w.1 in omega arith), r))
      ]

  gathered_odd : IsGathered Odd g p ts i first best → IsGathered Odd g p ts (suc i) first (max best asked)
  gathered_odd was = record {
    low = let l = was.low in omega arith;
    over = elim was.over [
      | inl r ↦ inl (λ j l. elim (eqb_tells j i) [
        | inl w ↦ reaches_up g p (value_at first (slice_index ts j)) (of_rank g asked) (of_rank g (max best asked))
            (subst (λ (k : ℕ). Reaches g p (value_at first (slice_index ts k)) (of_rank g asked)) (sym w.1) reached)
            (of_rank_up g asked (max best asked) (omega arith))
        | inr w ↦ reaches_up g p (value_at first (slice_index ts j)) (of_rank g best) (of_rank g (max best asked)) (r j (let d = w.1 in omega arith))
            (of_rank_up g best (max best asked) (omega arith))
      ])
      | inr e ↦ inr (top_last (of_rank g (max best asked)) (subst (λ (n : Measure). IsAtMost n (of_rank g (max best asked))) e
          (of_rank_up g best (max best asked) (omega arith))))
    ];
    under = λ table n is h r. of_rank_max (λ k. IsAtMost k n) g best asked (was.under table n is h (λ j l. r j (omega arith)))
        (asked_under table n is h (r i (omega arith)));
  }

  pub gathered_next : (o : Player) → IsGathered o g p ts i first best → IsGathered o g p ts (suc i) first (better_of o best asked)
  gathered_next Even was = gathered_even was
  gathered_next Odd was = gathered_odd was

-- ------------------------------------------------------------------ over all successors

place_of : (ts : List ℕ) (t : ℕ) → Contains ts t → (j : ℕ) × (j < length ts) × (slice_index ts j ≡ t)
place_of ts t (j, l, e) = (j, l, get_or_default ts j 0 t l ∙ e)

there_is : (ts : List ℕ) (j : ℕ) → j < length ts → Contains ts (slice_index ts j)
there_is ts j l = (j, l, get_or_default ts j (slice_index ts j) 0 l)

module _ (g : Game) (p : ℕ) (ts : List ℕ) (first : List Measure) (best : ℕ) where
  over_best : (o : Player) (progs : List Measure) (b : Measure) → AllZip (IsProg g p) (map (value_at first) ts) progs → IsBestFor o progs b
      → ReachesSome o g p ts (length ts) first (of_rank g best) → IsAtMost b (of_rank g best)
  over_best Even progs b zipped is (j, l, r) =
      let on = zip_on (IsProg g p) (λ n. IsAtMost b n) (value_at first) ts progs (slice_index ts j) zipped is.1 (there_is ts j l) in
      at_most_trans b on.0 (of_rank g best) on.2 (on.1.least (of_rank g best) (of_rank_measure g best) r)
  over_best Odd progs b zipped is r =
      let back = zip_back (IsProg g p) (value_at first) ts progs b zipped is.0 in
      let place = place_of ts back.0 back.1 in
      back.2.least (of_rank g best) (of_rank_measure g best) (subst (λ (t : ℕ). Reaches g p (value_at first t) (of_rank g best)) place.2 (r place.0 place.1))

pub greater_new : (own n : Measure) → IsAtMost n (greater_of own n)
greater_new own n = elim (at_most_or_below own n) [
  | inl w ↦ subst (IsAtMost n) (greater_taken own n w) (at_most_itself n)
  | inr w ↦ subst (IsAtMost n) (sym (own_greater own n w)) w
]

-- the greater of two rises with both
pub greater_up : (own more b n : Measure) → IsAtMost own more → IsAtMost b n → IsAtMost (greater_of own b) (greater_of more n)
greater_up own more b n l h = greater_has (λ m. IsAtMost m (greater_of more n)) own b (at_most_trans own more (greater_of more n) l (greater_rises more n))
    (elim (at_most_or_below more n) [
      | inl w ↦ subst (IsAtMost b) (greater_taken more n w) h
      | inr w ↦ subst (IsAtMost b) (sym (own_greater more n w)) (at_most_trans b n more h w)
    ])

-- the greater of the vertex's own value and what was gathered is at least the lift of the first table
pub gathered_over : (o : Player) (g : Game) (p v : ℕ) (ts : List ℕ) (i : ℕ) (first : List Measure) (best : ℕ)
    → option_map (λ y. y.owner) (vertex g v) ≡ Some o → option_map (λ y. y.priority) (vertex g v) ≡ Some p
    → option_map (λ y. y.successors) (vertex g v) ≡ Some ts → i ≡ length ts → IsGathered o g p ts i first best
    → IsOverLift g first v (greater_of (value_at first v) (of_rank g best))
gathered_over o g p v ts i first best owner priority successors e was r (x, at, (progs, b, zipped, is, q)) =
    let zipped_here = subst (λ (k : ℕ). AllZip (IsProg g k) (map (value_at first) ts) progs) (vertex_tells (λ (y : Vertex). y.priority) g v p x at priority)
    (subst (λ (us : List ℕ). AllZip (IsProg g x.priority) (map (value_at first) us) progs)
    (vertex_tells (λ (y : Vertex). y.successors) g v ts x at successors) zipped) in
    let is_here = subst (λ (k : Player). IsBestFor k progs b) (vertex_tells (λ (y : Vertex). y.owner) g v o x at owner) is in
    let low : IsAtMost b (of_rank g best) = elim was.over [
      | inl h ↦ over_best g p ts first best o progs b zipped_here is_here (subst (λ (k : ℕ). ReachesSome o g p ts k first (of_rank g best)) e h)
      | inr t ↦ subst (IsAtMost b) (sym t) (at_most_top b)
    ] in
    subst (λ (m : Measure). IsAtMost m (greater_of (value_at first v) (of_rank g best))) (sym q)
    (greater_up (value_at first v) (value_at first v) b (of_rank g best) (at_most_itself (value_at first v)) low)

-- what was gathered is below
pub gathered_below : (o : Player) (g : Game) (p v : ℕ) (ts : List ℕ) (i : ℕ) (first : List Measure) (best : ℕ) → IsGame g
    → option_map (λ y. y.owner) (vertex g v) ≡ Some o → option_map (λ y. y.priority) (vertex g v) ≡ Some p
    → option_map (λ y. y.successors) (vertex g v) ≡ Some ts → v < length g.vertices → i ≡ length ts → IsGathered o g p ts i first best
    → LiesBelow g v (of_rank g best)
gathered_below o g p v ts i first best game owner priority successors h e was = record {
  measure = of_rank_measure g best;
  under = λ table is. was.under table (value_at table v) is (value_measure g table is.0.1 v) (reached o owner table is);
}
  where
    here : (x : Vertex) × (vertex g v ≡ Some x)
    here = vertex_here g v h

    same_successors : here.0.successors ≡ ts
    same_successors = vertex_tells (λ (y : Vertex). y.successors) g v ts here.0 here.1 successors

    same_priority : here.0.priority ≡ p
    same_priority = vertex_tells (λ (y : Vertex). y.priority) g v p here.0 here.1 priority

    reached : (o : Player) → option_map (λ y. y.owner) (vertex g v) ≡ Some o → (table : List Measure) → IsProgress g table
        → ReachesSome o g p ts i table (value_at table v)
    reached Even own table is =
        let r = even_reaches g table game is v here.0 here.1 (vertex_tells (λ (y : Vertex). y.owner) g v Even here.0 here.1 own) in
        let place = place_of ts r.0 (subst (λ (us : List ℕ). Contains us r.0) same_successors r.1.successor) in (
          place.0,
          (let l = place.1 in omega arith),
          subst (λ (q : ℕ). Reaches g q (value_at table (slice_index ts place.0)) (value_at table v)) same_priority
              (subst (λ (t : ℕ). Reaches g here.0.priority (value_at table t) (value_at table v)) (sym place.2) r.2),
        )
    reached Odd own table is = λ j l.
        subst (λ (q : ℕ). Reaches g q (value_at table (slice_index ts j)) (value_at table v)) same_priority
        (odd_reaches g table game is v here.0 here.1 (vertex_tells (λ (y : Vertex). y.owner) g v Odd here.0 here.1 own) (slice_index ts j)
        (subst (λ (us : List ℕ). Contains us (slice_index ts j)) (sym same_successors) (there_is ts j (omega arith))))
