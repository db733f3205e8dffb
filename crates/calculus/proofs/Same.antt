-- Sets and environments with the same states give meanings with the same states.
use Rattle.std.proofs.Common.{ℕ, zero, suc, ◌<◌, ◌↔◌, true, false, List, inl, inr}
use Rattle.std.specs.Prelude.{MatchBool}
use Rattle.std.specs.Str.{bytes_eq}
use Rattle.systems.specs.System.{System, IsSystem}
use Rattle.calculus.specs.Tree.{Formula, True, False, Var, Not, And, Or, Implies, Dia, Box, Mu, Nu}
use Rattle.calculus.specs.Meaning.{Env, with_set, iterate, mean}
use Rattle.calculus.proofs.Inside.{leads_inside}

abbrev pub Same : ℕ → (ℕ → Type 0) → (ℕ → Type 0) → Type 0
Same n P Q = (s : ℕ) → s < n → P s ↔ Q s

abbrev pub SameSets : ℕ → Env → Env → Type 0
SameSets n e d = (name : List ℕ) → Same n (e name) (d name)

pub with_same : (n : ℕ) (e d : Env) (name : List ℕ) (U V : ℕ → Type 0) → SameSets n e d → Same n U V → SameSets n (with_set e name U) (with_set d name V)
with_same n e d name U V sets same other s h =
    elim (bytes_eq other name) as (λ b. MatchBool b (U s) (e other s) ↔ MatchBool b (V s) (d other s)) [ true ↦ same s h | false ↦ sets other s h ]

pub iterate_same : (n k : ℕ) (F G : (ℕ → Type 0) → ℕ → Type 0) (P : ℕ → Type 0) → ((U V : ℕ → Type 0) → Same n U V → Same n (F U) (G V))
    → Same n (iterate k F P) (iterate k G P)
iterate_same n zero F G P step s h = (λ x. x, λ x. x)
iterate_same n (suc k) F G P step s h = step (iterate k F P) (iterate k G P) (iterate_same n k F G P step) s h

pub mean_same : (l : System) → IsSystem l → (f : Formula) (e d : Env) → SameSets l.states e d → Same l.states (mean l f e) (mean l f d)
mean_same l ok True e d same s h = (λ x. x, λ x. x)
mean_same l ok False e d same s h = (λ x. x, λ x. x)
mean_same l ok (Var name) e d same s h = same name s h
mean_same l ok (Not f) e d same s h = let i = mean_same l ok f e d same s h in (λ no x. no (i.1 x), λ no x. no (i.0 x))
mean_same l ok (And f g) e d same s h = let i = mean_same l ok f e d same s h in let j = mean_same l ok g e d same s h
    in (λ x. (i.0 x.0, j.0 x.1), λ x. (i.1 x.0, j.1 x.1))
mean_same l ok (Or f g) e d same s h =
    let i = mean_same l ok f e d same s h in let j = mean_same l ok g e d same s h in
    (λ x. elim x [ inl a ↦ inl (i.0 a) | inr b ↦ inr (j.0 b) ], λ x. elim x [ inl a ↦ inl (i.1 a) | inr b ↦ inr (j.1 b) ])
mean_same l ok (Implies f g) e d same s h = let i = mean_same l ok f e d same s h in let j = mean_same l ok g e d same s h
    in (λ k x. j.0 (k (i.1 x)), λ k x. j.1 (k (i.0 x)))
mean_same l ok (Dia r f) e d same s h = (
  λ x. (x.0, x.1, (mean_same l ok f e d same x.0 (leads_inside l ok r s x.0 h x.1)).0 x.2),
  λ x. (x.0, x.1, (mean_same l ok f e d same x.0 (leads_inside l ok r s x.0 h x.1)).1 x.2),
)
mean_same l ok (Box r f) e d same s h = (
  λ all t go. (mean_same l ok f e d same t (leads_inside l ok r s t h go)).0 (all t go),
  λ all t go. (mean_same l ok f e d same t (leads_inside l ok r s t h go)).1 (all t go),
)
mean_same l ok (Mu name f) e d same s h =
    iterate_same l.states l.states (λ set. mean l f (with_set e name set)) (λ set. mean l f (with_set d name set)) (λ t. ⊥)
    (λ U V uv. mean_same l ok f (with_set e name U) (with_set d name V) (with_same l.states e d name U V same uv)) s h
mean_same l ok (Nu name f) e d same s h =
    iterate_same l.states l.states (λ set. mean l f (with_set e name set)) (λ set. mean l f (with_set d name set)) (λ t. Unit {0})
    (λ U V uv. mean_same l ok f (with_set e name U) (with_set d name V) (with_same l.states e d name U V same uv)) s h
