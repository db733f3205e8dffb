-- Tests, and searches among finitely many numbers.
use Rattle.measures.proofs.Common.{◌≡◌, ℕ, zero, suc, ◌<◌, ◌⊎◌, Bool, true, false, List, [], ◌∷◌, refl, sym, subst, inl, inr, arith, Contains, eqb_tells}
use Rattle.measures.proofs.Lists.{contains_cases, contains_first, contains_later, contains_none}

pub either_way : (b : Bool) → (b ≡ true) ⊎ (b ≡ false)
either_way true = inl refl
either_way false = inr refl

-- among the first n numbers one is of the first kind, or all are of the second
pub find_below : (P Q : ℕ → Type 0) → ((u : ℕ) → P u ⊎ Q u) → (n : ℕ) → ((u : ℕ) × (u < n) × P u) ⊎ ((u : ℕ) → u < n → Q u)
find_below P Q dec zero = inr (λ u h. absurd (omega arith))
find_below P Q dec (suc n) = elim (dec n) [
  | inl p ↦ inl (n, omega arith, p)
  | inr q ↦ elim (find_below P Q dec n) [
    | inl w ↦ (let l = w.1 in inl (w.0, omega arith, w.2))
    | inr all ↦ inr (λ u h. elim (eqb_tells u n) [ inl e ↦ subst Q (sym e.1) q | inr d ↦ (let x = d.1 in all u (omega arith)) ])
  ]
]

pub find_in : (P Q : ℕ → Type 0) → ((u : ℕ) → P u ⊎ Q u) → (ts : List ℕ) → ((t : ℕ) × Contains ts t × P t) ⊎ ((t : ℕ) → Contains ts t → Q t)
find_in P Q dec [] = inr (λ t c. absurd (contains_none t c))
find_in P Q dec (x ∷ xs) = elim (dec x) [
  | inl p ↦ inl (x, contains_first x xs, p)
  | inr q ↦ elim (find_in P Q dec xs) [
    | inl w ↦ inl (w.0, contains_later x w.0 xs w.1, w.2)
    | inr all ↦ inr (λ t c. elim (contains_cases x t xs c) [ inl e ↦ subst Q e q | inr d ↦ all t d ])
  ]
]
