-- One more mark is set.
use Rattle.std.proofs.Common.{◌≡◌, ℕ, zero, suc, ◌<◌, ◌⊎◌, Bool, true, false, List, [], ◌∷◌, length, refl, ap, inl, inr, arith}
use Rattle.std.specs.Prelude.{slice_set}
use Rattle.calculus.specs.Meaning.{marked}
use Rattle.meaning.specs.Arrivals.{unmarked}
use Rattle.meaning.proofs.Marked.{at}

pub set_keeps : (ms : List Bool) (i s : ℕ) → marked ms s → marked (slice_set ms i true) s
set_keeps [] i s h = h
set_keeps (m ∷ ms) zero zero h = refl
set_keeps (m ∷ ms) zero (suc s) h = h
set_keeps (m ∷ ms) (suc i) zero h = h
set_keeps (m ∷ ms) (suc i) (suc s) h = set_keeps ms i s h

pub set_there : (ms : List Bool) (i : ℕ) → i < length ms → marked (slice_set ms i true) i
set_there [] i lt = absurd (omega arith)
set_there (m ∷ ms) zero lt = refl
set_there (m ∷ ms) (suc i) lt = set_there ms i (omega arith)

pub set_adds : (ms : List Bool) (i s : ℕ) → marked (slice_set ms i true) s → marked ms s ⊎ (i ≡ s)
set_adds [] i s h = inl h
set_adds (m ∷ ms) zero zero h = inr refl
set_adds (m ∷ ms) zero (suc s) h = inl h
set_adds (m ∷ ms) (suc i) zero h = inl h
set_adds (m ∷ ms) (suc i) (suc s) h = elim (set_adds ms i s h) [ inl k ↦ inl k | inr e ↦ inr (ap suc e) ]

pub one_fewer : (ms : List Bool) (i : ℕ) → i < length ms → at ms i ≡ false → suc (unmarked (slice_set ms i true)) ≡ unmarked ms
one_fewer [] i lt e = absurd (omega arith)
one_fewer (true ∷ ms) zero lt e = cc
one_fewer (false ∷ ms) zero lt e = refl
one_fewer (true ∷ ms) (suc i) lt e = one_fewer ms i (omega arith) e
one_fewer (false ∷ ms) (suc i) lt e = ap suc (one_fewer ms i (omega arith) e)
