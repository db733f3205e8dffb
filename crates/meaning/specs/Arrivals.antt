-- Steps by the states into which they lead.
use Rattle.std.specs.Prelude.{◌≡◌, ℕ, zero, suc, ◌<◌, ◌≤◌, ◌↔◌, Bool, List, [], ◌∷◌, length, slice_index_or, cond}
use Rattle.systems.specs.System.{System}
use Rattle.calculus.specs.Tree.{Action, Step}
use Rattle.calculus.specs.Meaning.{Leads}
use Rattle.meaning.specs.declared.arrivals.Arrival.{Arrival}
use Rattle.meaning.specs.declared.arrivals.Arrivals.{Arrivals}

abbrev pub nowhere : Arrival
nowhere = record { source = 0; earlier = 0 }

abbrev pub arrival_at : List Arrival → ℕ → Arrival
arrival_at all i = slice_index_or all i nowhere

-- From a number, over so many earlier ones, one comes to the ith step.
abbrev pub ComesFrom : List Arrival → (hops from i : ℕ) → Type 0
ComesFrom all zero from i = from ≡ suc i
ComesFrom all (suc hops) zero i = ⊥
ComesFrom all (suc hops) (suc k) i = ComesFrom all hops (arrival_at all k).earlier i

-- a step that one comes to from this number begins at s
abbrev pub IsOneOf : List Arrival → ℕ → ℕ → Type 0
IsOneOf all from s = (hops i : ℕ) × ComesFrom all hops from i × (i < length all) × ((arrival_at all i).source ≡ s)

-- a step from s leads into t
abbrev pub IsSource : Arrivals → ℕ → ℕ → Type 0
IsSource a t s = IsOneOf a.all.items (slice_index_or a.last.items t 0) s

-- for n states: the numbers are those of earlier steps, and the steps begin at states
pub record HasRoom (n : ℕ) (last : List ℕ) (all : List Arrival) : Type 0 where
  pub count : length last ≡ n
  pub within : (t : ℕ) → t < n → slice_index_or last t 0 ≤ length all
  pub earlier : (i : ℕ) → i < length all → (arrival_at all i).earlier ≤ i
  pub source : (i : ℕ) → i < length all → (arrival_at all i).source < n

-- the steps of the action
pub record IsIndex (l : System) (act : Action) (a : Arrivals) : Type 0 where
  pub room : HasRoom l.states a.last.items a.all.items
  pub steps : (t s : ℕ) → t < l.states → IsSource a t s ↔ Leads l (Step act) s t

-- how many marks are not set
abbrev pub unmarked : List Bool → ℕ
unmarked [] = 0
unmarked (m ∷ ms) = cond m (unmarked ms) (suc (unmarked ms))
