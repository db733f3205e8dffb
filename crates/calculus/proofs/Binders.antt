-- Binders mean fixpoints.
use Rattle.std.proofs.Common.{ℕ, ◌<◌, ◌≤◌, ◌↔◌, Bool, true, List, ◌∷◌}
use Rattle.std.specs.Prelude.{IsTrue}
use Rattle.systems.specs.System.{System, IsSystem}
use Rattle.calculus.specs.Tree.{Formula, Mu, Nu}
use Rattle.calculus.specs.Admitted.{Scope}
use Rattle.calculus.specs.Meaning.{Env, with_set, iterate, mean}
use Rattle.calculus.specs.FixpointLaws.{told_by_tests, body, IsBody, MeaningIsDecided, BodyIsMonotone, IteratesReach, MuIsLeast, NuIsGreatest}
use Rattle.calculus.proofs.Fixpoints.{IsDecided, IsWithin, upward, downward, in_closed, has_kept, low_closed, high_kept, low_reached, high_reached}
use Rattle.calculus.proofs.Grown.{inner_grows, grown}
use Rattle.calculus.proofs.Decided.{Told, with_told, mean_decided}

-- below a binder, over sets that tests tell
module _ (l : System) (ok : IsSystem l) (scope : Scope) (name : List ℕ) (f : Formula) (is_body : IsBody scope name f) (e : Env) where
  pub body_grows : (U V : ℕ → Type 0) → IsWithin l.states U V → IsWithin l.states (body l f e name U) (body l f e name V)
  body_grows U V uv =
      grown l ok f ((name, true) ∷ scope) (with_set e name U) (with_set e name V) is_body
      (inner_grows l.states scope e e name U V uv (λ other stands s lt h. h, λ other stands s lt h. h))

  module _ (tests : Told l ok e) where
    body_decides : (U : ℕ → Type 0) → IsDecided l.states U → IsDecided l.states (body l f e name U)
    body_decides U u = mean_decided l ok f (with_set e name U) (with_told l ok e name U u tests)

    pub mu_fixed : (s : ℕ) → s < l.states → body l f e name (mean l (Mu name f) e) s ↔ mean l (Mu name f) e s
    mu_fixed s lt = (
      λ h. low_closed l.states (body l f e name) body_grows body_decides s lt h,
      λ h. upward l.states (body l f e name) body_grows l.states s lt h,
    )

    pub nu_fixed : (s : ℕ) → s < l.states → body l f e name (mean l (Nu name f) e) s ↔ mean l (Nu name f) e s
    nu_fixed s lt = (
      λ h. downward l.states (body l f e name) body_grows l.states s lt h,
      λ h. high_kept l.states (body l f e name) body_grows body_decides s lt h,
    )

    pub reach : (k : ℕ) → l.states ≤ k → (s : ℕ) → s < l.states
        → (iterate k (body l f e name) (λ t. ⊥) s ↔ mean l (Mu name f) e s) × (iterate k (body l f e name) (λ t. Unit {0}) s ↔ mean l (Nu name f) e s)
    reach k le s lt = (
      low_reached l.states (body l f e name) body_grows body_decides k le s lt,
      high_reached l.states (body l f e name) body_grows body_decides k le s lt,
    )

  pub mu_least : (U : ℕ → Type 0) → IsWithin l.states (body l f e name U) U → IsWithin l.states (mean l (Mu name f) e) U
  mu_least U closed = in_closed l.states (body l f e name) body_grows U closed l.states

  pub nu_greatest : (U : ℕ → Type 0) → IsWithin l.states U (body l f e name U) → IsWithin l.states U (mean l (Nu name f) e)
  nu_greatest U kept = has_kept l.states (body l f e name) body_grows U kept l.states

told_by : (l : System) (ok : IsSystem l) (tests : List ℕ → ℕ → Bool) → Told l ok (told_by_tests tests)
told_by l ok tests name = (tests name, λ s lt. (λ h. h, λ h. h))

pub meaning_is_decided : MeaningIsDecided
meaning_is_decided l f tests ok = mean_decided l ok f (told_by_tests tests) (told_by l ok tests)

pub body_is_monotone : BodyIsMonotone
body_is_monotone l scope name f tests U V ok is_body uv = body_grows l ok scope name f is_body (told_by_tests tests) (λ t. IsTrue (U t)) (λ t. IsTrue (V t)) uv

pub iterates_reach : IteratesReach
iterates_reach l scope name f tests k ok is_body le = reach l ok scope name f is_body (told_by_tests tests) (told_by l ok tests) k le

pub mu_is_least : MuIsLeast
mu_is_least l scope name f tests ok is_body = (
  mu_fixed l ok scope name f is_body (told_by_tests tests) (told_by l ok tests),
  λ U closed. mu_least l ok scope name f is_body (told_by_tests tests) (λ t. IsTrue (U t)) closed,
)

pub nu_is_greatest : NuIsGreatest
nu_is_greatest l scope name f tests ok is_body = (
  nu_fixed l ok scope name f is_body (told_by_tests tests) (told_by l ok tests),
  λ U kept. nu_greatest l ok scope name f is_body (told_by_tests tests) (λ t. IsTrue (U t)) kept,
)
