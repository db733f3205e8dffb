-- One more is marked.
use Rattle.std.proofs.Common.{◌≡◌, ℕ, zero, suc, ◌<◌, ◌⊎◌, Bool, true, false, List, [], ◌∷◌, length, replicate, refl, sym, ap, inl, inr, arith, IsTrue, true≢false}
use Rattle.std.specs.Prelude.{slice_set}
use Rattle.witness.specs.Walk.{is_marked, unmarked_vertices}

pub set_keeps : (marks : List Bool) (i u : ℕ) → IsTrue (is_marked marks u) → IsTrue (is_marked (slice_set marks i true) u)
set_keeps [] i u h = h
set_keeps (m ∷ marks) zero zero h = refl
set_keeps (m ∷ marks) zero (suc u) h = h
set_keeps (m ∷ marks) (suc i) zero h = h
set_keeps (m ∷ marks) (suc i) (suc u) h = set_keeps marks i u h

pub set_there : (marks : List Bool) (i : ℕ) → i < length marks → IsTrue (is_marked (slice_set marks i true) i)
set_there [] i lt = absurd (omega arith)
set_there (m ∷ marks) zero lt = refl
set_there (m ∷ marks) (suc i) lt = set_there marks i (omega arith)

pub set_adds : (marks : List Bool) (i u : ℕ) → IsTrue (is_marked (slice_set marks i true) u) → IsTrue (is_marked marks u) ⊎ (i ≡ u)
set_adds [] i u h = inl h
set_adds (m ∷ marks) zero zero h = inr refl
set_adds (m ∷ marks) zero (suc u) h = inl h
set_adds (m ∷ marks) (suc i) zero h = inl h
set_adds (m ∷ marks) (suc i) (suc u) h = elim (set_adds marks i u h) [ inl k ↦ inl k | inr e ↦ inr (ap suc e) ]

pub one_fewer : (marks : List Bool) (i : ℕ) → i < length marks → is_marked marks i ≡ false → suc (unmarked_vertices (slice_set marks i true)) ≡ unmarked_vertices marks
one_fewer [] i lt e = absurd (omega arith)
one_fewer (true ∷ marks) zero lt e = cc
one_fewer (false ∷ marks) zero lt e = refl
one_fewer (true ∷ marks) (suc i) lt e = one_fewer marks i (omega arith) e
one_fewer (false ∷ marks) (suc i) lt e = ap suc (one_fewer marks i (omega arith) e)

pub marked_within : (marks : List Bool) (u : ℕ) → IsTrue (is_marked marks u) → u < length marks
marked_within [] u h = absurd (true≢false (sym h))
marked_within (m ∷ marks) zero h = omega arith
marked_within (m ∷ marks) (suc u) h = let l = marked_within marks u h in omega (arith, l)

pub none_fewer : (marks : List Bool) (i : ℕ) → is_marked marks i ≡ true → unmarked_vertices (slice_set marks i true) ≡ unmarked_vertices marks
none_fewer [] i e = refl
none_fewer (true ∷ marks) zero e = refl
none_fewer (false ∷ marks) zero e = cc
none_fewer (true ∷ marks) (suc i) e = none_fewer marks i e
none_fewer (false ∷ marks) (suc i) e = ap suc (none_fewer marks i e)

-- at first none is
pub no_mark : (n u : ℕ) → IsTrue (is_marked (replicate n false) u) → ⊥
no_mark zero u h = true≢false (sym h)
no_mark (suc n) zero h = true≢false (sym h)
no_mark (suc n) (suc u) h = no_mark n u h

pub all_unmarked : (n : ℕ) → unmarked_vertices (replicate n false) ≡ n
all_unmarked zero = refl
all_unmarked (suc n) = ap suc (all_unmarked n)

-- where each is marked
pub none_unmarked : (marks : List Bool) → ((u : ℕ) → u < length marks → IsTrue (is_marked marks u)) → unmarked_vertices marks ≡ 0
none_unmarked [] h = refl
none_unmarked (true ∷ marks) h = none_unmarked marks (λ u lt. h (suc u) (omega arith))
none_unmarked (false ∷ marks) h = absurd (true≢false (sym (h 0 (omega arith))))
