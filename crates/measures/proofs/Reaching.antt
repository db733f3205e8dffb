-- Whether a measure reaches another, by comparing their first counts.
use Rattle.measures.proofs.Common.{◌≡◌, ◌≢◌, ◌↔◌, ℕ, ◌-◌, ◌/◌, Bool, false, List, length, take, refl, sym, ap, subst, ◌∙◌, inl, inr, arith, IsTrue, MatchBool}
use Rattle.measures.proofs.Common.{Game, Measure, Counts, Top, IsAtMost, IsBelow, IsProg, Reaches, components, is_odd}
use Rattle.measures.proofs.Common.{kept, is_top_of, measure_of}
use Rattle.measures.proofs.Components.{kept_is}
use Rattle.measures.proofs.Measures.{at_most_or_below, reaches_up}

-- counts of a measure that isn't top are the measure
pub counts_are : (m : Measure) (top : Bool) (c : List ℕ) → top ≡ is_top_of m → top ≡ false → measure_of (is_top_of m) c ≡ m → Counts c ≡ m
counts_are m top c e d is = sym (ap (λ b. measure_of b c) (sym e ∙ d)) ∙ is

pub counts_here : (m : Measure) (c : List ℕ) → m ≢ Top → measure_of (is_top_of m) c ≡ m → Counts c ≡ m
counts_here Top c never is = absurd (never refl)
counts_here (Counts a) c never is = is

module _ (g : Game) (p k w : ℕ) (c d : List ℕ) (m r : Measure) (first : Counts c ≡ m) (second : Counts d ≡ r) (keeps : k ≡ w - p / 2)
    (wide : length (components g) ≡ w) where
  kept_here : k ≡ kept g p
  kept_here = let e = kept_is g p in omega arith

  abbrev Below : Type 0
  Below = IsBelow (Counts (take (kept g p) c)) (Counts (take (kept g p) d))

  abbrev AtMost : Type 0
  AtMost = IsAtMost (Counts (take (kept g p) c)) (Counts (take (kept g p) d))

  carried : (b : Bool) → (IsTrue b ↔ MatchBool (is_odd p) Below AtMost) → IsTrue b ↔ Reaches g p m r
  carried b h = subst (λ (n : Measure). IsTrue b ↔ Reaches g p n r) first (subst (λ (n : Measure). IsTrue b ↔ Reaches g p (Counts c) n) second h)

  pub reaches_is : (b : Bool) (x y : List ℕ) → x ≡ take k c → y ≡ take k d
      → (IsTrue b ↔ MatchBool (is_odd p) (IsBelow (Counts x) (Counts y)) (IsAtMost (Counts x) (Counts y))) → IsTrue b ↔ Reaches g p m r
  reaches_is b x y e f h =
      carried b (subst (λ (z : List ℕ). IsTrue b ↔ MatchBool (is_odd p) (IsBelow (Counts z) (Counts (take (kept g p) d))) (IsAtMost (Counts z) (Counts (take (kept g p) d))))
      (e ∙ ap (λ n. take n c) kept_here) (subst (λ (z : List ℕ). IsTrue b ↔ MatchBool (is_odd p) (IsBelow (Counts x) (Counts z)) (IsAtMost (Counts x) (Counts z)))
      (f ∙ ap (λ n. take n d) kept_here) h))

-- what doesn't reach is less than what the vertex asks for
pub not_reached : (g : Game) (p : ℕ) (m own r : Measure) → IsProg g p m r → (Reaches g p m own → ⊥) → IsBelow own r
not_reached g p m own r is never = elim (at_most_or_below own r) [ inl b ↦ b | inr a ↦ absurd (never (reaches_up g p m r own is.reaches a)) ]
