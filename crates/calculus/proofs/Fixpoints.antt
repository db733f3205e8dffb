-- Over n states the nth iterates are the least and the greatest fixpoint, where the map is monotone and keeps sets decided.
use Rattle.std.proofs.Common.{◌≡◌, ℕ, zero, suc, ◌-◌, ◌<◌, ◌≤◌, ◌⊎◌, ◌↔◌, Bool, true, false, refl, sym, subst, inl, inr, arith, true≢false}
use Rattle.std.specs.Prelude.{IsTrue}
use Rattle.calculus.specs.Meaning.{iterate}
use Rattle.calculus.proofs.Counted.{how_many, at_most_all, same_or_more}

-- a test tells which states are in the set
abbrev pub IsDecided : ℕ → (ℕ → Type 0) → Type 0
IsDecided n U = (u : ℕ → Bool) × ((s : ℕ) → s < n → IsTrue (u s) ↔ U s)

abbrev pub IsWithin : ℕ → (ℕ → Type 0) → (ℕ → Type 0) → Type 0
IsWithin n U V = (s : ℕ) → s < n → U s → V s

-- what each turn keeps lasts
lasting : (Q : ℕ → Type 0) → ((k : ℕ) → Q k → Q (suc k)) → (j k : ℕ) → j ≤ k → Q j → Q k
lasting Q keeps j zero le q = let e : j ≡ 0 = omega arith in subst Q e q
lasting Q keeps j (suc k) le q = elim (last_or_less j k le) [ inl m ↦ keeps k (lasting Q keeps j k m q) | inr e ↦ subst Q e q ]
  where
    last_or_less : (j k : ℕ) → j ≤ suc k → (j ≤ k) ⊎ (j ≡ suc k)
    last_or_less j k le = grind arith

-- it stands still by the kth turn, or the count is at least k
still_by : (Q : ℕ → Type 0) (count : ℕ → ℕ) → ((k : ℕ) → Q k ⊎ (count k < count (suc k))) → (k : ℕ) → ((j : ℕ) × (j < k) × Q j) ⊎ (k ≤ count k)
still_by Q count turn zero = inr (omega arith)
still_by Q count turn (suc k) = elim (still_by Q count turn k) [
  | inl w ↦ inl (w.0, omega (arith, w.1), w.2)
  | inr many ↦ elim (turn k) [ inl q ↦ inl (k, omega arith, q) | inr more ↦ inr (omega arith) ]
]

still : (n : ℕ) (Q : ℕ → Type 0) (count : ℕ → ℕ) → ((k : ℕ) → Q k → Q (suc k)) → ((k : ℕ) → Q k ⊎ (count k < count (suc k))) → ((k : ℕ) → count k ≤ n) → Q n
still n Q count keeps turn few = elim (still_by Q count turn (suc n)) [
  | inl w ↦ lasting Q keeps w.0 n (omega (arith, w.1)) w.2
  | inr many ↦ absurd (omega (arith, few (suc n)))
]

module _ (n : ℕ) (F : (ℕ → Type 0) → ℕ → Type 0) (grows : (U V : ℕ → Type 0) → IsWithin n U V → IsWithin n (F U) (F V)) where
  -- from no state: more with each turn
  pub upward : (j : ℕ) → IsWithin n (iterate j F (λ t. ⊥)) (iterate (suc j) F (λ t. ⊥))
  upward zero s lt h = absurd h
  upward (suc j) s lt h = grows (iterate j F (λ t. ⊥)) (iterate (suc j) F (λ t. ⊥)) (upward j) s lt h

  pub downward : (j : ℕ) → IsWithin n (iterate (suc j) F (λ t. Unit {0})) (iterate j F (λ t. Unit {0}))
  downward zero s lt h = tt
  downward (suc j) s lt h = grows (iterate (suc j) F (λ t. Unit {0})) (iterate j F (λ t. Unit {0})) (downward j) s lt h

  -- every closed set has the iterates from no state, and every set that is kept is in those from all
  pub in_closed : (U : ℕ → Type 0) → IsWithin n (F U) U → (j : ℕ) → IsWithin n (iterate j F (λ t. ⊥)) U
  in_closed U closed zero s lt h = absurd h
  in_closed U closed (suc j) s lt h = closed s lt (grows (iterate j F (λ t. ⊥)) U (in_closed U closed j) s lt h)

  pub has_kept : (U : ℕ → Type 0) → IsWithin n U (F U) → (j : ℕ) → IsWithin n U (iterate j F (λ t. Unit {0}))
  has_kept U kept zero s lt h = tt
  has_kept U kept (suc j) s lt h = grows U (iterate j F (λ t. Unit {0})) (has_kept U kept j) s lt (kept s lt h)

  module _ (decides : (U : ℕ → Type 0) → IsDecided n U → IsDecided n (F U)) where
    pub low : (j : ℕ) → IsDecided n (iterate j F (λ t. ⊥))
    low zero = (λ s. false, λ s lt. (λ e. absurd (true≢false (sym e)), λ h. absurd h))
    low (suc j) = decides (iterate j F (λ t. ⊥)) (low j)

    pub high : (j : ℕ) → IsDecided n (iterate j F (λ t. Unit {0}))
    high zero = (λ s. true, λ s lt. (λ e. tt, λ h. refl))
    high (suc j) = decides (iterate j F (λ t. Unit {0})) (high j)

    -- the nth iterate from no state is closed
    pub low_closed : IsWithin n (F (iterate n F (λ t. ⊥))) (iterate n F (λ t. ⊥))
    low_closed = still n (λ k. IsWithin n (iterate (suc k) F (λ t. ⊥)) (iterate k F (λ t. ⊥))) (λ k. how_many (low k).0 n)
        (λ k h. grows (iterate (suc k) F (λ t. ⊥)) (iterate k F (λ t. ⊥)) h) turn (λ k. at_most_all n (low k).0)
      where
        turn : (k : ℕ) → IsWithin n (iterate (suc k) F (λ t. ⊥)) (iterate k F (λ t. ⊥)) ⊎ (how_many (low k).0 n < how_many (low (suc k)).0 n)
        turn k = elim (same_or_more n (low k).0 (low (suc k)).0 (λ t lt h. ((low (suc k)).1 t lt).1 (upward k t lt (((low k).1 t lt).0 h)))) [
          | inl same ↦ inl (λ t lt h. ((low k).1 t lt).0 (same t lt (((low (suc k)).1 t lt).1 h)))
          | inr more ↦ inr more
        ]

    -- the nth iterate from all states is kept
    pub high_kept : IsWithin n (iterate n F (λ t. Unit {0})) (F (iterate n F (λ t. Unit {0})))
    high_kept = still n (λ k. IsWithin n (iterate k F (λ t. Unit {0})) (iterate (suc k) F (λ t. Unit {0}))) (λ k. n - how_many (high k).0 n)
        (λ k h. grows (iterate k F (λ t. Unit {0})) (iterate (suc k) F (λ t. Unit {0})) h) turn (λ k. omega arith)
      where
        turn : (k : ℕ) → IsWithin n (iterate k F (λ t. Unit {0})) (iterate (suc k) F (λ t. Unit {0}))
            ⊎ (n - how_many (high k).0 n < n - how_many (high (suc k)).0 n)
        turn k = elim (same_or_more n (high (suc k)).0 (high k).0 (λ t lt h. ((high k).1 t lt).1 (downward k t lt (((high (suc k)).1 t lt).0 h)))) [
          | inl same ↦ inl (λ t lt h. ((high (suc k)).1 t lt).0 (same t lt (((high k).1 t lt).1 h)))
          | inr more ↦ inr (omega (arith, at_most_all n (high k).0))
        ]

    -- later iterates are the nth
    pub low_reached : (k : ℕ) → n ≤ k → (s : ℕ) → s < n → iterate k F (λ t. ⊥) s ↔ iterate n F (λ t. ⊥) s
    low_reached k le s lt = (
      lasting (λ i. IsWithin n (iterate i F (λ t. ⊥)) (iterate n F (λ t. ⊥)))
          (λ i h s lt w. low_closed s lt (grows (iterate i F (λ t. ⊥)) (iterate n F (λ t. ⊥)) h s lt w)) n k le (λ s lt w. w) s lt,
      lasting (λ i. IsWithin n (iterate n F (λ t. ⊥)) (iterate i F (λ t. ⊥))) (λ i h s lt w. upward i s lt (h s lt w)) n k le (λ s lt w. w) s lt,
    )

    pub high_reached : (k : ℕ) → n ≤ k → (s : ℕ) → s < n → iterate k F (λ t. Unit {0}) s ↔ iterate n F (λ t. Unit {0}) s
    high_reached k le s lt = (
      lasting (λ i. IsWithin n (iterate i F (λ t. Unit {0})) (iterate n F (λ t. Unit {0}))) (λ i h s lt w. h s lt (downward i s lt w)) n k le
          (λ s lt w. w) s lt,
      lasting (λ i. IsWithin n (iterate n F (λ t. Unit {0})) (iterate i F (λ t. Unit {0})))
          (λ i h s lt w. grows (iterate n F (λ t. Unit {0})) (iterate i F (λ t. Unit {0})) h s lt (high_kept s lt w)) n k le (λ s lt w. w) s lt,
    )
