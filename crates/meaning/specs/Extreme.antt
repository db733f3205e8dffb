-- Marks that are the least or the greatest fixpoint of a binder's formula.
use Rattle.std.specs.Prelude.{ℕ, ◌<◌, ◌↔◌, Bool, List, IsTrue}
use Rattle.systems.specs.System.{System}
use Rattle.calculus.specs.Tree.{Formula}
use Rattle.calculus.specs.Meaning.{no_sets, marked}
use Rattle.calculus.specs.FixpointLaws.{body}

-- The map that takes a set to the formula's meaning leaves the marks, and they are in every set that it stays in.
pub record IsLeast (l : System) (name : List ℕ) (f : Formula) (marks : List Bool) : Type 0 where
  pub fixed : (s : ℕ) → s < l.states → body l f no_sets name (marked marks) s ↔ marked marks s
  pub least : (U : ℕ → Bool) → ((s : ℕ) → s < l.states → body l f no_sets name (λ t. IsTrue (U t)) s → IsTrue (U s)) → (s : ℕ) → s < l.states
      → marked marks s → IsTrue (U s)

-- The map leaves the marks, and they have every set that stays in what it makes of it.
pub record IsGreatest (l : System) (name : List ℕ) (f : Formula) (marks : List Bool) : Type 0 where
  pub fixed : (s : ℕ) → s < l.states → body l f no_sets name (marked marks) s ↔ marked marks s
  pub greatest : (U : ℕ → Bool) → ((s : ℕ) → s < l.states → IsTrue (U s) → body l f no_sets name (λ t. IsTrue (U t)) s) → (s : ℕ) → s < l.states
      → IsTrue (U s) → marked marks s
