-- Tables that only rise.
use Rattle.measures.proofs.Common.{◌<◌, ℕ, List, length, sym, subst, inl, inr, slice_set, eqb_tells, Measure, IsAtMost, value_at}
use Rattle.measures.proofs.Measures.{at_most_itself, at_most_trans}
use Rattle.measures.proofs.Monotone.{LiesUnder}
use Rattle.measures.proofs.Plain.{value_set_other, value_set_same}

pub under_itself : (table : List Measure) → LiesUnder table table
under_itself table v = at_most_itself (value_at table v)

pub under_trans : (first second third : List Measure) → LiesUnder first second → LiesUnder second third → LiesUnder first third
under_trans first second third h k v = at_most_trans (value_at first v) (value_at second v) (value_at third v) (h v) (k v)

pub set_under : (values : List Measure) (v : ℕ) (m : Measure) → v < length values → IsAtMost (value_at values v) m → LiesUnder values (slice_set values v m)
set_under values v m inside low u = elim (eqb_tells u v) [
  | inl w ↦ subst (λ k. IsAtMost (value_at values k) (value_at (slice_set values v m) k)) (sym w.1)
      (subst (IsAtMost (value_at values v)) (sym (value_set_same values v m inside)) low)
  | inr w ↦ subst (IsAtMost (value_at values u)) (sym (value_set_other values v u m w.1)) (at_most_itself (value_at values u))
]
