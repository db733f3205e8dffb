-- Measures as far as their first counts.
use Rattle.measures.proofs.Common.{◌≡◌, ◌≢◌, ℕ, zero, suc, ◌+◌, ◌≤◌, true, false, List, [], ◌∷◌, length, refl, sym, ap, subst, inl, inr, arith, true≢false, slice_index, take_all}
use Rattle.measures.proofs.Common.{AllZip-long, Game, count, components, Measure, Top, Counts, IsAtMost, IsBelow, IsMeasure, Reaches, is_odd, kept}
use Rattle.measures.specs.Measure.{digit_of, cut}
use Rattle.measures.proofs.Order.{Over, over_from, over_to, over_fewer}
use Rattle.measures.proofs.Measures.{at_most_or_below, at_most_top, at_most_trans, not_below, over_reaches}

-- what is below something between
pub below_between : (a b c d : Measure) → IsAtMost a b → IsBelow b c → IsAtMost c d → IsBelow a d
below_between a b c d h i j = elim (at_most_or_below a d) [
  | inl l ↦ l
  | inr l ↦ absurd (not_below b c i (at_most_trans c d b j (at_most_trans d a b l h)))
]

-- fewer counts are in the same order
pub cut_fewer : (j k : ℕ) (m r : Measure) → j ≤ k → IsAtMost (cut k m) (cut k r) → IsAtMost (cut j m) (cut j r)
cut_fewer j k Top Top h o = refl
cut_fewer j k Top (Counts d) h o = absurd (true≢false (sym o))
cut_fewer j k (Counts c) Top h o = refl
cut_fewer j k (Counts c) (Counts d) h o = over_to false j c d (over_fewer false j k c d h (over_from false k c d o))

-- all counts are the measure
cut_all : (g : Game) (m : Measure) → IsMeasure g m → cut (length (components g)) m ≡ m
cut_all g Top h = refl
cut_all g (Counts c) h = ap Counts (take_all (length (components g)) c (let l = AllZip-long (λ n p. n ≤ count g p) c (components g) h in omega arith))

pub cut_all_below : (g : Game) (m r : Measure) → IsMeasure g m → IsMeasure g r → IsBelow m r
    → IsBelow (cut (length (components g)) m) (cut (length (components g)) r)
cut_all_below g m r h i b = subst (λ x. IsBelow x (cut (length (components g)) r)) (sym (cut_all g m h)) (subst (IsBelow m) (sym (cut_all g r i)) b)

-- what a measure reaches is at most it, as far as it is kept
pub reaches_cut : (g : Game) (p k : ℕ) (m r : Measure) → k ≤ kept g p → Reaches g p m r → IsAtMost (cut k m) (cut k r)
reaches_cut g p k m Top h i = at_most_top (cut k m)
reaches_cut g p k Top (Counts d) h i = absurd i
reaches_cut g p k (Counts c) (Counts d) h i = over_to false k c d (over_fewer (is_odd p) k (kept g p) c d h (over_reaches g p c d i))

-- and less at an odd priority
pub reaches_below : (g : Game) (p : ℕ) (m : Measure) (d : List ℕ) → is_odd p ≡ true → Reaches g p m (Counts d)
    → IsBelow (cut (kept g p) m) (cut (kept g p) (Counts d))
reaches_below g p Top d odd i = absurd i
reaches_below g p (Counts c) d odd i = over_to true (kept g p) c d (subst (λ s. Over s (kept g p) c d) odd (over_reaches g p c d i))

-- the first counts differ in the last
last_some : (j : ℕ) (x y : List ℕ) → length x ≡ length y → Over true (suc j) x y → Over false j y x → slice_index y j ≢ 0
last_some j [] [] long o q e = true≢false o
last_some j [] (y ∷ ys) long o q e = omega arith
last_some j (x ∷ xs) [] long o q e = o
last_some zero (x ∷ xs) (y ∷ ys) long (inl h) q e = omega arith
last_some zero (x ∷ xs) (y ∷ ys) long (inr h) q e = true≢false h.1
last_some (suc j) (x ∷ xs) (y ∷ ys) long (inl h) (inl q) e = omega arith
last_some (suc j) (x ∷ xs) (y ∷ ys) long (inl h) (inr q) e = (let w = q.0 in omega arith)
last_some (suc j) (x ∷ xs) (y ∷ ys) long (inr h) (inl q) e = (let w = h.0 in omega arith)
last_some (suc j) (x ∷ xs) (y ∷ ys) long (inr h) (inr q) e = last_some j xs ys (omega arith) h.1 q.1 e

-- The second measure has something at the digit from which on it is greater.
pub digit_some : (g : Game) (k : ℕ) (r m : Measure) → IsMeasure g r → IsMeasure g m → IsBelow (cut k r) (cut k m)
    → ((j : ℕ) → k ≡ suc j → IsAtMost (cut j m) (cut j r)) → digit_of m k ≢ 0
digit_some g zero r Top h i o low e = omega arith
digit_some g zero Top (Counts d) h i o low e = true≢false (sym o)
digit_some g zero (Counts c) (Counts d) h i o low e = true≢false (over_from true zero c d o)
digit_some g (suc j) Top Top h i o low e = true≢false (sym o)
digit_some g (suc j) (Counts c) Top h i o low e = true≢false (sym (low j refl))
digit_some g (suc j) Top (Counts d) h i o low e = true≢false (sym o)
digit_some g (suc j) (Counts c) (Counts d) h i o low e =
    let a = AllZip-long (λ n p. n ≤ count g p) c (components g) h in
    let b = AllZip-long (λ n p. n ≤ count g p) d (components g) i in
    last_some j c d (omega arith) (over_from true (suc j) c d o) (over_from false j d c (low j refl)) e

-- Between counts that differ in the last by one at most there are none.
none_between : (j : ℕ) (y b x : List ℕ) → Over true (suc j) y b → Over true (suc j) b x → Over false j x y → slice_index x j ≤ slice_index y j + 1
    → length y ≡ length b → length b ≡ length x → ⊥
none_between j [] [] x h i o l u v = true≢false h
none_between j (y ∷ ys) (b ∷ bs) [] h i o l u v = i
none_between j [] (b ∷ bs) x h i o l u v = omega arith
none_between j (y ∷ ys) [] x h i o l u v = h
none_between zero (y ∷ ys) (b ∷ bs) (x ∷ xs) (inl h) (inl i) o l u v = omega arith
none_between zero (y ∷ ys) (b ∷ bs) (x ∷ xs) (inr h) i o l u v = true≢false h.1
none_between zero (y ∷ ys) (b ∷ bs) (x ∷ xs) (inl h) (inr i) o l u v = true≢false i.1
none_between (suc j) (y ∷ ys) (b ∷ bs) (x ∷ xs) (inl h) (inl i) (inl o) l u v = omega arith
none_between (suc j) (y ∷ ys) (b ∷ bs) (x ∷ xs) (inl h) (inl i) (inr o) l u v = (let q = o.0 in omega arith)
none_between (suc j) (y ∷ ys) (b ∷ bs) (x ∷ xs) (inl h) (inr i) (inl o) l u v = (let q = i.0 in omega arith)
none_between (suc j) (y ∷ ys) (b ∷ bs) (x ∷ xs) (inl h) (inr i) (inr o) l u v = (let q = i.0 in let w = o.0 in omega arith)
none_between (suc j) (y ∷ ys) (b ∷ bs) (x ∷ xs) (inr h) (inl i) (inl o) l u v = (let q = h.0 in omega arith)
none_between (suc j) (y ∷ ys) (b ∷ bs) (x ∷ xs) (inr h) (inl i) (inr o) l u v = (let q = h.0 in let w = o.0 in omega arith)
none_between (suc j) (y ∷ ys) (b ∷ bs) (x ∷ xs) (inr h) (inr i) (inl o) l u v = (let q = h.0 in let w = i.0 in omega arith)
none_between (suc j) (y ∷ ys) (b ∷ bs) (x ∷ xs) (inr h) (inr i) (inr o) l u v = none_between j ys bs xs h.1 i.1 o.1 l (omega arith) (omega arith)

pub none_between_measures : (g : Game) (j : ℕ) (y b x : Measure) → IsMeasure g y → IsMeasure g b → IsMeasure g x → IsBelow (cut (suc j) y) (cut (suc j) b)
    → IsBelow (cut (suc j) b) (cut (suc j) x) → IsAtMost (cut j x) (cut j y) → digit_of x (suc j) ≤ digit_of y (suc j) + 1 → ⊥
none_between_measures g j Top Top x m n r h i o l = true≢false (sym h)
none_between_measures g j Top (Counts b) x m n r h i o l = true≢false (sym h)
none_between_measures g j (Counts y) Top Top m n r h i o l = true≢false (sym i)
none_between_measures g j (Counts y) Top (Counts x) m n r h i o l = true≢false (sym i)
none_between_measures g j (Counts y) (Counts b) Top m n r h i o l = true≢false (sym o)
none_between_measures g j (Counts y) (Counts b) (Counts x) m n r h i o l =
    let u = AllZip-long (λ n p. n ≤ count g p) y (components g) m in
    let v = AllZip-long (λ n p. n ≤ count g p) b (components g) n in
    let w = AllZip-long (λ n p. n ≤ count g p) x (components g) r in
    none_between j y b x (over_from true (suc j) y b h) (over_from true (suc j) b x i) (over_from false j x y o) l (omega arith) (omega arith)

pub record HasCounts (m : Measure) : Type 0 where
  pub counts : List ℕ
  pub is : m ≡ Counts counts

-- what is below another is counts
pub below_counts : (k : ℕ) (m r : Measure) → IsBelow (cut k m) (cut k r) → HasCounts m
below_counts k Top Top h = absurd (true≢false (sym h))
below_counts k Top (Counts d) h = absurd (true≢false (sym h))
below_counts k (Counts c) r h = record { counts = c; is = refl }
