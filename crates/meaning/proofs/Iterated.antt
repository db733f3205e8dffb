-- Marks of the iterates of a binder's map.
use Rattle.std.proofs.Common.{◌≡◌, ℕ, zero, suc, ◌+◌, ◌-◌, ◌≤◌, Bool, true, false, List, add-zero, add-suc, add-one, subst, arith}
use Rattle.std.specs.Prelude.{IsTrue}
use Rattle.systems.specs.System.{System, IsSystem}
use Rattle.calculus.specs.Tree.{Formula}
use Rattle.calculus.specs.Meaning.{Env, with_set, iterate, mean, marked, MarksOf}
use Rattle.calculus.proofs.Same.{Same, with_same, mean_same}
use Rattle.calculus.proofs.Telling.{false_is_none}
use Rattle.meaning.proofs.Elements.{both}
use Rattle.meaning.proofs.Marked.{marks_same}

module _ (l : System) (ok : IsSystem l) (name : List ℕ) (f : Formula) (e : Env) where
  abbrev pub next : (ℕ → Type 0) → ℕ → Type 0
  next set = mean l f (with_set e name set)

  next_same : (U V : ℕ → Type 0) → Same l.states U V → Same l.states (next U) (next V)
  next_same U V uv = mean_same l ok f (with_set e name U) (with_set e name V) (with_same l.states e e name U V (λ _ s h. (λ x. x, λ x. x)) uv)

  iterate_from : (k : ℕ) (P Q : ℕ → Type 0) → Same l.states P Q → Same l.states (iterate k next P) (iterate k next Q)
  iterate_from zero P Q same = same
  iterate_from (suc k) P Q same = next_same (iterate k next P) (iterate k next Q) (iterate_from k P Q same)

  -- one more turn
  pub turn_marks : (k : ℕ) (P : ℕ → Type 0) (before seen after : List Bool) → seen ≡ before → MarksOf l.states before (iterate k next P)
      → MarksOf l.states after (next (marked seen)) → MarksOf l.states after (iterate (k + 1) next P)
  turn_marks k P before seen after e b a =
      rw add-one (marks_same l.states after (next (marked before)) (next (iterate k next P)) (subst (λ ms. MarksOf l.states after (next (marked ms))) e a)
      (next_same (marked before) (iterate k next P) b.exact))

  -- begun at no state, and at all
  pub least_marks : (marks : List Bool) → MarksOf l.states marks (iterate l.states next (λ s. IsTrue false))
      → MarksOf l.states marks (iterate l.states next (λ s. ⊥))
  least_marks marks m = marks_same l.states marks _ _ m (iterate_from l.states (λ s. IsTrue false) (λ s. ⊥) (λ s h. (false_is_none, λ none. absurd none)))

  pub greatest_marks : (marks : List Bool) → MarksOf l.states marks (iterate l.states next (λ s. IsTrue true))
      → MarksOf l.states marks (iterate l.states next (λ s. Unit {0}))
  greatest_marks marks m = marks_same l.states marks _ _ m (iterate_from l.states (λ s. IsTrue true) (λ s. Unit {0}) (λ s h. (λ _. tt, λ _. λ i. true)))

  -- a set that comes again stays
  stays : (k j : ℕ) (P : ℕ → Type 0) → Same l.states (iterate k next P) (iterate (suc k) next P) → Same l.states (iterate k next P) (iterate (k + j) next P)
  stays k zero P same s h = rw (add-zero k) (λ x. x, λ x. x)
  stays k (suc j) P same s h = rw (add-suc k j) (both (same s h) (next_same (iterate k next P) (iterate (k + j) next P) (stays k j P same) s h))

  pub repeats_marks : (k n : ℕ) (P : ℕ → Type 0) (set seen after : List Bool) → seen ≡ set → after ≡ set → k ≤ n → MarksOf l.states set (iterate k next P)
      → MarksOf l.states after (next (marked seen)) → MarksOf l.states set (iterate n next P)
  repeats_marks k n P set seen after e d le now made =
      let then_ : MarksOf l.states set (next (marked set)) = subst (λ ms. MarksOf l.states set (next (marked ms))) e
      (subst (λ ms. MarksOf l.states ms (next (marked seen))) d made) in
      let again : MarksOf l.states set (iterate (suc k) next P) = marks_same l.states set (next (marked set)) (next (iterate k next P)) then_
      (next_same (marked set) (iterate k next P) now.exact) in
      let same : Same l.states (iterate k next P) (iterate (suc k) next P) = λ s h.
      (λ x. (again.exact s h).0 ((now.exact s h).1 x), λ x. (now.exact s h).0 ((again.exact s h).1 x)) in
      let there : k + (n - k) ≡ n = omega arith in
      subst (λ m. MarksOf l.states set (iterate m next P)) there
      (marks_same l.states set (iterate k next P) (iterate (k + (n - k)) next P) now (stays k (n - k) P same))
