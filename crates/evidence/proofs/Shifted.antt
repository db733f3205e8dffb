-- The even numbers up to n, each with one more, are the odd ones up to n + 1: what Odd's rank counts is what Even's does in the dual game.
use Rattle.std.proofs.Common.{◌≡◌, ℕ, zero, suc, ◌+◌, ◌/◌, ◌<◌, Bool, true, false, List, [], ◌∷◌, length, map, refl, sym, ap, ◌∙◌, inl, inr, arith, count_by}
use Rattle.std.proofs.Common.{nat_le, if◌then◌else◌, true≢false}
use Rattle.std.proofs.lemmas.Bool.Decides.{leb_tells}
use Rattle.std.proofs.lemmas.List.{length-map}
use Rattle.game.specs.Game.{Game, Vertex, dual, greatest, greatest_of}
use Rattle.measures.specs.Measure.{components, is_odd, kept, odd_down}
use Rattle.measures.proofs.Components.{odd_down_long}
use Rattle.measures.proofs.Cycles.{odd_or_even}
use Rattle.game.proofs.Duals.{turned}
use Rattle.measures.proofs.Lists.{count_no, count_yes}
use Rattle.evidence.specs.Evidence.{even_down}

odd_after : (n : ℕ) → is_odd n ≡ false → is_odd (suc n) ≡ true
odd_after n e = elim (odd_or_even n) [
  | inl w ↦ absurd (true≢false (sym w.0 ∙ e))
  | inr w ↦ elim (odd_or_even (suc n)) [ inl v ↦ v.0 | inr v ↦ (let a = w.1 in let b = v.1 in absurd (omega arith)) ]
]

even_after : (n : ℕ) → is_odd n ≡ true → is_odd (suc n) ≡ false
even_after n e = elim (odd_or_even n) [
  | inl w ↦ elim (odd_or_even (suc n)) [ inl v ↦ (let a = w.1 in let b = v.1 in absurd (omega arith)) | inr v ↦ v.0 ]
  | inr w ↦ absurd (true≢false (sym e ∙ w.0))
]

pub odd_down_is : (n : ℕ) → odd_down (suc n) ≡ map (λ q. suc q) (even_down n)
odd_down_is zero = refl
odd_down_is (suc n) = by (odd_down_is n) (is_odd (suc n)) refl
  where
    by : odd_down (suc n) ≡ map (λ q. suc q) (even_down n) → (b : Bool) → is_odd (suc n) ≡ b
        → odd_down (suc (suc n)) ≡ map (λ q. suc q) (if b then even_down n else suc n ∷ even_down n)
    by h true e = ap (λ b. if b then suc (suc n) ∷ odd_down (suc n) else odd_down (suc n)) (even_after (suc n) e) ∙ h
    by h false e = ap (λ b. if b then suc (suc n) ∷ odd_down (suc n) else odd_down (suc n)) (odd_after (suc n) e) ∙ ap (λ qs. suc (suc n) ∷ qs) h

pub count_suc : (p : ℕ) (qs : List ℕ) → count_by (λ q. nat_le (p + 1) q) (map (λ q. suc q) qs) ≡ count_by (λ q. nat_le p q) qs
count_suc p [] = refl
count_suc p (q ∷ qs) = by (count_suc p qs)
  where
    by : count_by (λ q. nat_le (p + 1) q) (map (λ q. suc q) qs) ≡ count_by (λ q. nat_le p q) qs
        → count_by (λ q. nat_le (p + 1) q) (suc q ∷ map (λ q. suc q) qs) ≡ count_by (λ q. nat_le p q) (q ∷ qs)
    by h = elim (leb_tells p q) [
      | inl w ↦ elim (leb_tells (p + 1) (suc q)) [
        | inl v ↦ (
            let a = count_yes (λ r. nat_le p r) q qs w.0 in
            let b = count_yes (λ r. nat_le (p + 1) r) (suc q) (map (λ r. suc r) qs) v.0 in
            omega (arith, a, b, h))
        | inr v ↦ (let a = w.1 in let b = v.1 in absurd (omega arith))
      ]
      | inr w ↦ elim (leb_tells (p + 1) (suc q)) [
        | inl v ↦ (let a = w.1 in let b = v.1 in absurd (omega arith))
        | inr v ↦ (
            let a = count_no (λ r. nat_le p r) q qs w.0 in
            let b = count_no (λ r. nat_le (p + 1) r) (suc q) (map (λ r. suc r) qs) v.0 in
            omega (arith, a, b, h))
      ]
    ]

greatest_turned : (x : Vertex) (xs : List Vertex) → greatest_of (map turned (x ∷ xs)) ≡ suc (greatest_of (x ∷ xs))
greatest_turned x [] = omega arith
greatest_turned x (y ∷ ys) = let r = greatest_turned y ys in omega (arith, r)

-- in a game with a vertex
pub greatest_dual : (g : Game) → 0 < length g.vertices → greatest (dual g) ≡ suc (greatest g)
greatest_dual g = by g.vertices
  where
    by : (vs : List Vertex) → 0 < length vs → greatest_of (map turned vs) ≡ suc (greatest_of vs)
    by [] h = absurd (omega arith)
    by (x ∷ xs) h = greatest_turned x xs

pub components_dual : (g : Game) → 0 < length g.vertices → components (dual g) ≡ map (λ q. suc q) (even_down (greatest g))
components_dual g h = ap odd_down (greatest_dual g h) ∙ odd_down_is (greatest g)

pub kept_dual : (g : Game) (p : ℕ) → 0 < length g.vertices → kept (dual g) (p + 1) ≡ count_by (λ q. nat_le p q) (even_down (greatest g))
kept_dual g p h = ap (λ qs. count_by (λ q. nat_le (p + 1) q) qs) (components_dual g h) ∙ count_suc p (even_down (greatest g))

pub counted_dual : (g : Game) → 0 < length g.vertices → length (components (dual g)) ≡ length (even_down (greatest g))
counted_dual g h = ap length (components_dual g h) ∙ length-map (even_down (greatest g)) (λ q. suc q)

pub even_down_long : (n : ℕ) → length (even_down n) ≡ n / 2 + 1
even_down_long n =
    let same : length (odd_down (suc n)) ≡ length (even_down n) = ap length (odd_down_is n) ∙ length-map (even_down n) (λ q. suc q) in
    let long = odd_down_long (suc n) in
    omega arith
