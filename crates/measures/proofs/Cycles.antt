-- Along edges at which measures reach, no cycle's greatest priority is odd.
use Rattle.measures.proofs.Common.{◌≡◌, ◌≢◌, ℕ, ◌%◌, ◌<◌, ◌≤◌, ◌⊎◌, max, Bool, true, false, List, [], ◌∷◌, refl, sym, ap, subst, ◌∙◌, inl, inr, arith}
use Rattle.measures.proofs.Common.{true≢false, nat_le, leb_tells, eqb_tells, IsPath, Game, vertex, priority_at, greatest_met, Measure, Top, Counts}
use Rattle.measures.proofs.Common.{components, kept, Reaches, is_odd}
use Rattle.measures.proofs.Lists.{count_more}
use Rattle.measures.proofs.Order.{Over, over_trans, over_fewer, over_itself, not_over_itself}
use Rattle.measures.proofs.Measures.{over_reaches}

pub odd_or_even : (p : ℕ) → ((is_odd p ≡ true) × (p % 2 ≡ 1)) ⊎ ((is_odd p ≡ false) × (p % 2 ≡ 0))
odd_or_even p = elim (eqb_tells (p % 2) 1) [ inl w ↦ inl w | inr w ↦ let n = w.1 in inr (w.0, omega arith) ]

abbrev pub priority : Game → ℕ → ℕ
priority g v = priority_at (vertex g v)

le_below : (p q r : ℕ) → p ≤ q → nat_le q r ≡ true → nat_le p r ≡ true
le_below p q r h e = elim (leb_tells q r) [
  | inl w ↦ elim (leb_tells p r) [ inl v ↦ v.0 | inr v ↦ absurd (omega (arith, h, w.1, v.1)) ]
  | inr w ↦ absurd (true≢false (sym e ∙ w.0))
]

pub kept_fewer : (g : Game) (p q : ℕ) → p ≤ q → kept g q ≤ kept g p
kept_fewer g p q h = count_more (λ r. nat_le q r) (λ r. nat_le p r) (components g) (λ r. le_below p q r h)

-- the last place of a path is met
pub last_met : (g : Game) (R : ℕ → ℕ → Type 0) (s : ℕ) (others : List ℕ) (t : ℕ) → others ≢ [] → IsPath R s others t → priority g t ≤ greatest_met g others
last_met g R s [] t n p = absurd (n refl)
last_met g R s (m ∷ []) t n p = let e : priority g m ≡ priority g t = ap (priority g) p.1 in omega arith
last_met g R s (m ∷ o ∷ others) t n p = let h = last_met g R m (o ∷ others) t (λ e. cc) p.1 in omega (arith, h)

module _ (g : Game) (R : ℕ → ℕ → Type 0) (value : ℕ → Measure) (step : (u t : ℕ) → R u t → Reaches g (priority g u) (value t) (value u)) where
  -- the value at t is counts, so many of which are at most those of c
  record Falls (s : Bool) (k : ℕ) (t : ℕ) (c : List ℕ) : Type 0 where
    counts : List ℕ
    is : value t ≡ Counts counts
    over : Over s k counts c

  along : (u t : ℕ) (c : List ℕ) → R u t → value u ≡ Counts c → Falls (is_odd (priority g u)) (kept g (priority g u)) t c
  along u t c r e = by (value t) refl (subst (λ m. Reaches g (priority g u) (value t) m) e (step u t r))
    where
      by : (m : Measure) → value t ≡ m → Reaches g (priority g u) (value t) (Counts c) → Falls (is_odd (priority g u)) (kept g (priority g u)) t c
      by Top i h = absurd (subst (λ m. Reaches g (priority g u) m (Counts c)) i h)
      by (Counts d) i h = record { counts = d; is = i; over = over_reaches g (priority g u) d c (subst (λ m. Reaches g (priority g u) m (Counts c)) i h) }

  weakly : (p u t : ℕ) (c : List ℕ) → priority g u ≤ p → R u t → value u ≡ Counts c → Falls false (kept g p) t c
  weakly p u t c h r e =
      let f = along u t c r e in
      record {
        counts = f.counts;
        is = f.is;
        over = over_fewer (is_odd (priority g u)) (kept g p) (kept g (priority g u)) f.counts c
            (kept_fewer g (priority g u) p h) f.over;
      }

  strictly : (p u t : ℕ) (c : List ℕ) → is_odd p ≡ true → priority g u ≡ p → R u t → value u ≡ Counts c → Falls true (kept g p) t c
  strictly p u t c odd h r e = subst (λ b. Falls b (kept g p) t c) odd (subst (λ q. Falls (is_odd q) (kept g q) t c) h (along u t c r e))

  falls_weakly : (p s : ℕ) (others : List ℕ) (t : ℕ) (c : List ℕ) → priority g s ≤ p → greatest_met g others ≤ p → IsPath R s others t → value s ≡ Counts c
      → Falls false (kept g p) t c
  falls_weakly p s [] t c h i path e = record { counts = c; is = subst (λ v. value v ≡ Counts c) path e; over = over_itself (kept g p) c }
  falls_weakly p s (m ∷ others) t c h i path e =
      let f = weakly p s m c h path.0 e in
      let r = falls_weakly p m others t f.counts (omega arith) (omega arith) path.1 f.is in
      record { counts = r.counts; is = r.is; over = over_trans false false (kept g p) r.counts f.counts c r.over f.over }

  -- where the greatest priority is odd, and not at the end, it is met before
  falls_strictly : (p s : ℕ) (others : List ℕ) (t : ℕ) (c : List ℕ) → is_odd p ≡ true → max (priority g s) (greatest_met g others) ≡ p → priority g t < p
      → IsPath R s others t → value s ≡ Counts c
      → Falls true (kept g p) t c
  falls_strictly p s [] t c odd h below path e = let q : priority g s ≡ priority g t = ap (priority g) path in absurd (omega arith)
  falls_strictly p s (m ∷ others) t c odd h below path e = elim (eqb_tells (priority g s) p) [
    | inl w ↦ (
        let f = strictly p s m c odd w.1 path.0 e in
        let r = falls_weakly p m others t f.counts (omega arith) (omega arith) path.1 f.is in
        record { counts = r.counts; is = r.is; over = over_trans false true (kept g p) r.counts f.counts c r.over f.over })
    | inr w ↦ (
        let n = w.1 in
        let f = weakly p s m c (omega arith) path.0 e in
        let r = falls_strictly p m others t f.counts odd (omega arith) below path.1 f.is in
        record { counts = r.counts; is = r.is; over = over_trans true false (kept g p) r.counts f.counts c r.over f.over })
  ]

  no_fall : (k u : ℕ) (c : List ℕ) → value u ≡ Counts c → Falls true k u c → ⊥
  no_fall k u c e f = let q : f.counts ≡ c = counts_same f.counts c (sym f.is ∙ e) in not_over_itself k c (subst (λ d. Over true k d c) q f.over)
    where
      counts_same : (c d : List ℕ) → Counts c ≡ Counts d → c ≡ d
      counts_same c d e = cc

  pub no_odd_cycle : (u : ℕ) (others : List ℕ) (c : List ℕ) → value u ≡ Counts c → others ≢ [] → IsPath R u others u → is_odd (greatest_met g others) ≡ true → ⊥
  no_odd_cycle u [] c e n path odd = n refl
  no_odd_cycle u (m ∷ others) c e n path odd =
      let p = greatest_met g (m ∷ others) in
      let last = last_met g R u (m ∷ others) u n path in
      elim (eqb_tells (priority g u) p) [
        | inl w ↦ (
            let f = strictly p u m c odd w.1 path.0 e in
            let r = falls_weakly p m others u f.counts (omega arith) (omega arith) path.1 f.is in
            no_fall (kept g p) u c e (record { counts = r.counts; is = r.is; over = over_trans false true (kept g p) r.counts f.counts c r.over f.over }))
        | inr w ↦ (let x = w.1 in no_fall (kept g p) u c e (falls_strictly p u (m ∷ others) u c odd (omega arith) (omega arith) path e))
      ]
