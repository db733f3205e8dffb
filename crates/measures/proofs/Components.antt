-- The components, and measures that have a count for each of them.
use Rattle.measures.proofs.Common.{append_assoc, ◌++◌, ◌≡◌, ℕ, zero, suc, ◌+◌, ◌-◌, ◌/◌, ◌%◌, length, ◌<◌, ◌≤◌, ◌⊎◌, Bool, true, false, List, [], ◌∷◌, map}
use Rattle.measures.proofs.Common.{refl, sym, ap, subst, ◌∙◌, inl, inr, arith, true≢false, if◌then◌else◌, count_by, None, nat_le, AllByRecursion, leb_tells}
use Rattle.measures.proofs.Common.{Vertex, Game, vertex, greatest, greatest_of, priority_at, components, is_odd, kept, odd_down}
use Rattle.measures.proofs.Lists.{count_yes, count_no}
use Rattle.measures.proofs.Order.{Over}
use Rattle.measures.proofs.Cycles.{priority, odd_or_even}

abbrev AllOdd : List ℕ → Type 0
AllOdd ps = AllByRecursion (λ p. is_odd p ≡ true) ps

pub odd_down_odd : (n : ℕ) → AllByRecursion (λ p. is_odd p ≡ true) (odd_down n)
odd_down_odd zero = tt
odd_down_odd (suc n) = by (odd_down_odd n) (is_odd (suc n)) refl
  where
    by : AllOdd (odd_down n) → (b : Bool) → is_odd (suc n) ≡ b → AllOdd (if b then suc n ∷ odd_down n else odd_down n)
    by h true e = (e, h)
    by h false e = h

-- an odd number comes first, and the smaller ones follow
pub map_odd_down : (f : ℕ → ℕ) (n p : ℕ) (xs ys : List ℕ) → p ≡ suc n → n % 2 ≡ 0 → xs ++ map f (odd_down p) ≡ ys
    → (xs ++ f (n + 1) ∷ []) ++ map f (odd_down n) ≡ ys
map_odd_down f n p xs ys e even whole = elim (odd_or_even (suc n)) [
  | inl w ↦ (
      let one : suc n ≡ n + 1 = omega arith in
      let down : odd_down p ≡ (n + 1) ∷ odd_down n = ap odd_down e
      ∙ (ap (λ b. if b then suc n ∷ odd_down n else odd_down n) w.0 ∙ ap (λ k. k ∷ odd_down n) one) in
      append_assoc xs (f (n + 1) ∷ []) (map f (odd_down n)) ∙ (ap (λ ps. xs ++ map f ps) (sym down) ∙ whole))
  | inr w ↦ (let m = w.1 in absurd (omega arith))
]

abbrev kept_down : ℕ → ℕ → ℕ
kept_down q n = count_by (λ r. nat_le q r) (odd_down n)

le_yes : (q r : ℕ) → q ≤ r → nat_le q r ≡ true
le_yes q r h = elim (leb_tells q r) [ inl w ↦ w.0 | inr w ↦ (let l = w.1 in absurd (omega arith)) ]

le_no : (q r : ℕ) → r < q → nat_le q r ≡ false
le_no q r h = elim (leb_tells q r) [ inl w ↦ (let l = w.1 in absurd (omega arith)) | inr w ↦ w.0 ]

none_kept : (q n : ℕ) → n < q → kept_down q n ≡ 0
none_kept q zero h = refl
none_kept q (suc n) h = by (none_kept q n (omega arith)) (is_odd (suc n))
  where
    by : kept_down q n ≡ 0 → (b : Bool) → count_by (λ r. nat_le q r) (if b then suc n ∷ odd_down n else odd_down n) ≡ 0
    by e true = count_no (λ r. nat_le q r) (suc n) (odd_down n) (le_no q (suc n) h) ∙ e
    by e false = e

-- of the numbers up to n every other one is odd
pub odd_down_long : (n : ℕ) → length (odd_down n) ≡ (n + 1) / 2
odd_down_long zero = refl
odd_down_long (suc n) = by (odd_down_long n) (odd_or_even (suc n))
  where
    by : length (odd_down n) ≡ (n + 1) / 2 → ((is_odd (suc n) ≡ true) × (suc n % 2 ≡ 1)) ⊎ ((is_odd (suc n) ≡ false) × (suc n % 2 ≡ 0))
        → length (odd_down (suc n)) ≡ (suc n + 1) / 2
    by e (inl w) = let odd = w.1 in rw w.0 (omega arith)
    by e (inr w) = let even = w.1 in rw w.0 (omega arith)

kept_down_is : (q n : ℕ) → kept_down q n ≡ (n + 1) / 2 - q / 2
kept_down_is q zero = let half : (0 + 1) / 2 ≡ 0 = omega arith in omega (arith, half)
kept_down_is q (suc n) = by (kept_down_is q n) (odd_or_even (suc n))
  where
    by : kept_down q n ≡ (n + 1) / 2 - q / 2 → ((is_odd (suc n) ≡ true) × (suc n % 2 ≡ 1)) ⊎ ((is_odd (suc n) ≡ false) × (suc n % 2 ≡ 0))
        → kept_down q (suc n) ≡ (suc n + 1) / 2 - q / 2
    by e (inl w) = elim (leb_tells q (suc n)) [
      | inl y ↦ (let odd = w.1 in let low = y.1 in rw w.0 (count_yes (λ r. nat_le q r) (suc n) (odd_down n) y.0 ∙ omega arith))
      | inr y ↦ (let odd = w.1 in let high = y.1 in rw w.0 (count_no (λ r. nat_le q r) (suc n) (odd_down n) y.0 ∙ omega arith))
    ]
    by e (inr w) = let even = w.1 in rw w.0 (omega arith)

-- how many components stand at or above a priority
pub kept_is : (g : Game) (p : ℕ) → kept g p ≡ length (components g) - p / 2
kept_is g p = let e = kept_down_is p (greatest g) in let l = odd_down_long (greatest g) in omega arith

module _ (q : ℕ) (f h : ℕ → ℕ) (more : (p : ℕ) → is_odd p ≡ true → q ≤ p → f p ≤ h p) (still : is_odd q ≡ true → f q < h q) where
  abbrev Down : List ℕ → Type 0
  Down ps = Over (is_odd q) (count_by (λ r. nat_le q r) ps) (map f ps) (map h ps)

  first : (n : ℕ) → is_odd (suc n) ≡ true → (is_odd q ≡ true → q ≤ suc n) → ((is_odd q ≡ true → q ≤ n) → Down (odd_down n)) → Down (suc n ∷ odd_down n)
  first n odd within rest = elim (leb_tells q n) [
    | inl w ↦ (
        let low = w.1 in
        let e = count_yes (λ r. nat_le q r) (suc n) (odd_down n) (le_yes q (suc n) (omega arith)) in
        subst (λ k. Over (is_odd q) k (f (suc n) ∷ map f (odd_down n)) (h (suc n) ∷ map h (odd_down n))) (sym e)
        (equal_or (more (suc n) odd (omega arith)) (rest (λ o. low))))
    | inr w ↦ elim (leb_tells q (suc n)) [
      | inl y ↦ (
          let high = w.1 in
          let low = y.1 in
          let same : suc n ≡ q = omega arith in
          let e = count_yes (λ r. nat_le q r) (suc n) (odd_down n) (le_yes q (suc n) low) in
          subst (λ k. Over (is_odd q) k (f (suc n) ∷ map f (odd_down n)) (h (suc n) ∷ map h (odd_down n))) (sym e)
          (inl (subst (λ p. f p < h p) (sym same) (still (subst (λ p. is_odd p ≡ true) same odd)))))
      | inr y ↦ (
          let high = y.1 in
          let e = count_no (λ r. nat_le q r) (suc n) (odd_down n) (le_no q (suc n) high) ∙ none_kept q n (omega arith) in
          subst (λ k. Over (is_odd q) k (f (suc n) ∷ map f (odd_down n)) (h (suc n) ∷ map h (odd_down n))) (sym e)
          (not_odd (λ o. (let u = within o in omega arith))))
    ]
  ]
    where
      equal_or : f (suc n) ≤ h (suc n) → Over (is_odd q) (kept_down q n) (map f (odd_down n)) (map h (odd_down n))
          → (f (suc n) < h (suc n)) ⊎ ((f (suc n) ≡ h (suc n)) × Over (is_odd q) (kept_down q n) (map f (odd_down n)) (map h (odd_down n)))
      equal_or l o = elim (leb_tells (h (suc n)) (f (suc n))) [ inl z ↦ (let m = z.1 in inr (omega arith, o)) | inr z ↦ inl z.1 ]

      not_odd : (is_odd q ≡ true → ⊥) → is_odd q ≡ false
      not_odd never = elim (odd_or_even q) [ inl z ↦ absurd (never z.0) | inr z ↦ z.0 ]

  -- at or above q each count is at least as great, and greater at q itself: so the measure reaches
  pub over_down : (n : ℕ) → (is_odd q ≡ true → q ≤ n) → Down (odd_down n)
  over_down zero within = elim (odd_or_even q) [
    | inl w ↦ (let odd = w.1 in let low = within w.0 in absurd (omega arith))
    | inr w ↦ w.0
  ]
  over_down (suc n) within = by (over_down n) (is_odd (suc n)) refl
    where
      lower : is_odd (suc n) ≡ false → is_odd q ≡ true → q ≤ n
      lower even odd = elim (leb_tells q n) [
        | inl w ↦ w.1
        | inr w ↦ (let high = w.1 in let low = within odd in let same : suc n ≡ q = omega arith
            in absurd (true≢false (sym odd ∙ (ap is_odd (sym same) ∙ even))))
      ]

      by : ((is_odd q ≡ true → q ≤ n) → Down (odd_down n)) → (b : Bool) → is_odd (suc n) ≡ b → Down (if b then suc n ∷ odd_down n else odd_down n)
      by rest true e = first n e within rest
      by rest false e = rest (lower e)

within_greatest : (xs : List Vertex) (v : ℕ) → priority_at (vertex (record { vertices = xs; named = None }) v) ≤ greatest_of xs
within_greatest [] v = omega arith
within_greatest (x ∷ xs) zero = omega arith
within_greatest (x ∷ xs) (suc v) = let r = within_greatest xs v in omega arith

pub below_greatest : (g : Game) (v : ℕ) → priority g v ≤ greatest g
below_greatest g v = within_greatest g.vertices v
