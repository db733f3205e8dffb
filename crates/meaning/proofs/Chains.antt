-- The chain of the steps into a state, and one more step.
use Rattle.std.proofs.Common.{◌≡◌, ℕ, zero, suc, ◌<◌, ◌≤◌, ◌⊎◌, List, [], ◌∷◌, ◌++◌, length, refl, sym, ◌∙◌, ap, subst, inl, inr, arith, length-append}
use Rattle.std.proofs.lemmas.List.{get_or_append_left}
use Rattle.std.proofs.Math.Seq.{get_or-append_seam}
use Rattle.meaning.specs.declared.arrivals.Arrival.{Arrival}
use Rattle.meaning.specs.Arrivals.{nowhere, arrival_at, ComesFrom, IsOneOf}

abbrev pub AreEarlier : List Arrival → Type 0
AreEarlier all = (i : ℕ) → i < length all → (arrival_at all i).earlier ≤ i

-- from 0 one comes nowhere
pub none_there : (all : List Arrival) (s : ℕ) → IsOneOf all 0 s → ⊥
none_there all s (zero, i, e, lt, h) = omega (arith, e)
none_there all s (suc hops, i, e, lt, h) = e

-- from a number one comes to its step, and to those from the earlier number
pub first_or_earlier : (all : List Arrival) (k s : ℕ) → IsOneOf all (suc k) s → ((arrival_at all k).source ≡ s) ⊎ IsOneOf all (arrival_at all k).earlier s
first_or_earlier all k s (zero, i, e, lt, h) = let same : k ≡ i = omega (arith, e) in inl (ap (λ j. (arrival_at all j).source) same ∙ h)
first_or_earlier all k s (suc hops, i, e, lt, h) = inr (hops, i, e, lt, h)

pub first : (all : List Arrival) (k s : ℕ) → k < length all → (arrival_at all k).source ≡ s → IsOneOf all (suc k) s
first all k s lt h = (0, k, refl, lt, h)

pub later : (all : List Arrival) (k s : ℕ) → IsOneOf all (arrival_at all k).earlier s → IsOneOf all (suc k) s
later all k s (hops, i, e, lt, h) = (suc hops, i, e, lt, h)

module _ (all : List Arrival) (more : Arrival) (earlier : AreEarlier all) where
  pub same_below : (i : ℕ) → i < length all → arrival_at (all ++ more ∷ []) i ≡ arrival_at all i
  same_below i lt = get_or_append_left all (more ∷ []) nowhere i lt

  comes_on : (hops k i : ℕ) → k ≤ length all → ComesFrom all hops k i → ComesFrom (all ++ more ∷ []) hops k i
  comes_on zero k i le e = e
  comes_on (suc hops) zero i le e = e
  comes_on (suc hops) (suc k) i le e =
      subst (λ (a : Arrival). ComesFrom (all ++ more ∷ []) hops a.earlier i) (sym (same_below k (omega arith)))
      (comes_on hops (arrival_at all k).earlier i (omega (arith, earlier k (omega arith))) e)

  comes_back : (hops k i : ℕ) → k ≤ length all → ComesFrom (all ++ more ∷ []) hops k i → ComesFrom all hops k i × (i < length all)
  comes_back zero k i le e = (e, omega (arith, e))
  comes_back (suc hops) zero i le e = absurd e
  comes_back (suc hops) (suc k) i le e =
      comes_back hops (arrival_at all k).earlier i (omega (arith, earlier k (omega arith)))
      (subst (λ (a : Arrival). ComesFrom (all ++ more ∷ []) hops a.earlier i) (same_below k (omega arith)) e)

  -- one more step is not on the chains from the numbers so far
  pub on : (k s : ℕ) → k ≤ length all → IsOneOf all k s → IsOneOf (all ++ more ∷ []) k s
  on k s le (hops, i, e, lt, h) = (
    hops,
    i,
    comes_on hops k i le e,
    omega (arith, length-append all (more ∷ [])),
    ap (λ (a : Arrival). a.source) (same_below i lt) ∙ h,
  )

  pub back : (k s : ℕ) → k ≤ length all → IsOneOf (all ++ more ∷ []) k s → IsOneOf all k s
  back k s le (hops, i, e, lt, h) =
      let w = comes_back hops k i le e in
      (hops, i, w.0, w.1, sym (ap (λ (a : Arrival). a.source) (same_below i w.1)) ∙ h)

  pub new_one : arrival_at (all ++ more ∷ []) (length all) ≡ more
  new_one = get_or-append_seam all more [] nowhere
