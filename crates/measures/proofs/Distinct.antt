-- Different places of a list at which a test passes are at most as many as it counts.
use Rattle.measures.proofs.Common.{◌≡◌, ◌≢◌, ℕ, zero, suc, ◌≤◌, Bool, true, false, List, [], ◌∷◌, length, refl, sym, ap, ◌∙◌, arith, true≢false, count_by}
use Rattle.measures.proofs.Common.{Some, slice_get, AllByRecursion}
use Rattle.measures.proofs.Lists.{count_yes, count_no}

-- no two are equal
abbrev pub Apart : List ℕ → Type 0
Apart [] = Unit {0}
Apart (x ∷ xs) = AllByRecursion (λ y. x ≢ y) xs × Apart xs

-- the places in what follows the first
abbrev lowered : List ℕ → List ℕ
lowered [] = []
lowered (zero ∷ xs) = lowered xs
lowered (suc i ∷ xs) = i ∷ lowered xs

lowered_all : (P Q : ℕ → Type 0) (xs : List ℕ) → ((i : ℕ) → P (suc i) → Q i) → AllByRecursion P xs → AllByRecursion Q (lowered xs)
lowered_all P Q [] f h = tt
lowered_all P Q (zero ∷ xs) f h = lowered_all P Q xs f h.1
lowered_all P Q (suc i ∷ xs) f h = (f i h.0, lowered_all P Q xs f h.1)

lowered_apart : (xs : List ℕ) → Apart xs → Apart (lowered xs)
lowered_apart [] h = tt
lowered_apart (zero ∷ xs) h = lowered_apart xs h.1
lowered_apart (suc i ∷ xs) h = (lowered_all (λ y. suc i ≢ y) (λ y. i ≢ y) xs (λ y n e. n (ap suc e)) h.0, lowered_apart xs h.1)

-- with no 0 in it
lowered_long : (xs : List ℕ) → AllByRecursion (λ y. zero ≢ y) xs → length xs ≤ length (lowered xs)
lowered_long [] h = omega arith
lowered_long (zero ∷ xs) h = absurd (h.0 refl)
lowered_long (suc i ∷ xs) h = let r = lowered_long xs h.1 in omega arith

lowered_almost : (xs : List ℕ) → Apart xs → length xs ≤ suc (length (lowered xs))
lowered_almost [] h = omega arith
lowered_almost (zero ∷ xs) h = let r = lowered_long xs h.0 in omega arith
lowered_almost (suc i ∷ xs) h = let r = lowered_almost xs h.1 in omega arith

module _ {X : Type 0} (p : X → Bool) where
  -- what stands there passes
  abbrev pub PassesAt : List X → ℕ → Type 0
  PassesAt xs i = (x : X) × (slice_get xs i ≡ Some x) × (p x ≡ true)

  first_fails : (x : X) (xs : List X) (places : List ℕ) → p x ≡ false → AllByRecursion (PassesAt (x ∷ xs)) places → AllByRecursion (λ y. zero ≢ y) places
  first_fails x xs [] e h = tt
  first_fails x xs (zero ∷ places) e ((y, at, passes), more) = let q : x ≡ y = cc in absurd (true≢false (sym passes ∙ (ap p (sym q) ∙ e)))
  first_fails x xs (suc i ∷ places) e h = ((λ q. let z : 0 ≡ suc i = q in omega arith), first_fails x xs places e h.1)

  pub apart_count : (xs : List X) (places : List ℕ) → Apart places → AllByRecursion (PassesAt xs) places → length places ≤ count_by p xs
  apart_count [] [] a h = omega arith
  apart_count [] (i ∷ places) a ((x, at, passes), more) = absurd cc
  apart_count (x ∷ xs) places a h = by (apart_count xs (lowered places) (lowered_apart places a)
      (lowered_all (PassesAt (x ∷ xs)) (PassesAt xs) places (λ i w. w) h)) (p x) refl
    where
      by : length (lowered places) ≤ count_by p xs → (b : Bool) → p x ≡ b → length places ≤ count_by p (x ∷ xs)
      by r true e = omega (arith, r, lowered_almost places a, count_yes p x xs e)
      by r false e = omega (arith, r, lowered_long places (first_fails x xs places e h), count_no p x xs e)
