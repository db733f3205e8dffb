-- What a formula means doesn't depend on a variable that isn't free in it.
use Rattle.std.proofs.Common.{◌≡◌, ℕ, zero, suc, ◌<◌, ◌↔◌, Bool, true, false, not, ◌&&◌, List, inl, inr, refl, subst, arith}
use Rattle.std.specs.Prelude.{MatchBool}
use Rattle.std.specs.Str.{bytes_eq}
use Rattle.std.proofs.lemmas.Bool.{or_parts}
use Rattle.std.proofs.lemmas.Slice.Eq.{bytes_eq-Decides}
use Rattle.systems.specs.System.{System, IsSystem}
use Rattle.calculus.specs.Tree.{Formula, True, False, Var, Not, And, Or, Implies, Dia, Box, Mu, Nu}
use Rattle.calculus.specs.Meaning.{Env, with_set, iterate, mean, MarksOf}
use Rattle.calculus.proofs.Inside.{leads_inside}
use Rattle.calculus.proofs.Same.{Same, SameSets, mean_same, iterate_same}
use Rattle.meaning.specs.Free.{is_free_in}
use Rattle.meaning.proofs.Marked.{marks_same}

-- the same sets for all names but one
abbrev pub SameBut : ℕ → List ℕ → Env → Env → Type 0
SameBut n x e d = (name : List ℕ) → bytes_eq name x ≡ false → Same n (e name) (d name)

-- below a binder of the same name the sets are the same for all names
below_own : (n : ℕ) (x : List ℕ) (e d : Env) (name : List ℕ) (U V : ℕ → Type 0) → bytes_eq name x ≡ true → SameBut n x e d → Same n U V
    → SameSets n (with_set e name U) (with_set d name V)
below_own n x e d name U V own but same other s h = chosen (bytes_eq other name) refl
  where
    chosen : (b : Bool) → bytes_eq other name ≡ b → MatchBool b (U s) (e other s) ↔ MatchBool b (V s) (d other s)
    chosen true is = same s h
    chosen false is = but other (subst (λ y. bytes_eq other y ≡ false) ((bytes_eq-Decides name x).0 own) is) s h

-- and below another binder still for all but that one
below_other : (n : ℕ) (x : List ℕ) (e d : Env) (name : List ℕ) (U V : ℕ → Type 0) → SameBut n x e d → Same n U V
    → SameBut n x (with_set e name U) (with_set d name V)
below_other n x e d name U V but same other absent s h =
    elim (bytes_eq other name) as (λ b. MatchBool b (U s) (e other s) ↔ MatchBool b (V s) (d other s)) [ true ↦ same s h | false ↦ but other absent s h ]

module _ (l : System) (ok : IsSystem l) (x : List ℕ) where
  abbrev pub Agree : Formula → Type 1
  Agree f = (e d : Env) → is_free_in x f ≡ false → SameBut l.states x e d → Same l.states (mean l f e) (mean l f d)

  -- one turn of a binder
  turn : (name : List ℕ) (f : Formula) → Agree f → (e d : Env) → (not (bytes_eq name x) && is_free_in x f) ≡ false → SameBut l.states x e d
      → (U V : ℕ → Type 0) → Same l.states U V
      → Same l.states (mean l f (with_set e name U)) (mean l f (with_set d name V))
  turn name f agree e d absent but U V uv = chosen (bytes_eq name x) refl absent
    where
      chosen : (b : Bool) → bytes_eq name x ≡ b → (not b && is_free_in x f) ≡ false
          → Same l.states (mean l f (with_set e name U)) (mean l f (with_set d name V))
      chosen true is none = mean_same l ok f (with_set e name U) (with_set d name V) (below_own l.states x e d name U V is but uv)
      chosen false is none = agree (with_set e name U) (with_set d name V) none (below_other l.states x e d name U V but uv)

  pub agree : (f : Formula) → Agree f
  agree True e d absent but s h = (λ y. y, λ y. y)
  agree False e d absent but s h = (λ y. y, λ y. y)
  agree (Var name) e d absent but s h = but name absent s h
  agree (Not f) e d absent but s h = let i = agree f e d absent but s h in (λ not_f y. not_f (i.1 y), λ not_f y. not_f (i.0 y))
  agree (And f g) e d absent but s h =
      let w = or_parts (is_free_in x f) (is_free_in x g) absent in
      let i = agree f e d w.0 but s h in let j = agree g e d w.1 but s h in (λ y. (i.0 y.0, j.0 y.1), λ y. (i.1 y.0, j.1 y.1))
  agree (Or f g) e d absent but s h =
      let w = or_parts (is_free_in x f) (is_free_in x g) absent in
      let i = agree f e d w.0 but s h in let j = agree g e d w.1 but s h in
      (λ y. elim y [ inl a ↦ inl (i.0 a) | inr b ↦ inr (j.0 b) ], λ y. elim y [ inl a ↦ inl (i.1 a) | inr b ↦ inr (j.1 b) ])
  agree (Implies f g) e d absent but s h =
      let w = or_parts (is_free_in x f) (is_free_in x g) absent in
      let i = agree f e d w.0 but s h in let j = agree g e d w.1 but s h in (λ k y. j.0 (k (i.1 y)), λ k y. j.1 (k (i.0 y)))
  agree (Dia r f) e d absent but s h = (
    λ y. (y.0, y.1, (agree f e d absent but y.0 (leads_inside l ok r s y.0 h y.1)).0 y.2),
    λ y. (y.0, y.1, (agree f e d absent but y.0 (leads_inside l ok r s y.0 h y.1)).1 y.2),
  )
  agree (Box r f) e d absent but s h = (
    λ all t go. (agree f e d absent but t (leads_inside l ok r s t h go)).0 (all t go),
    λ all t go. (agree f e d absent but t (leads_inside l ok r s t h go)).1 (all t go),
  )
  agree (Mu name f) e d absent but s h =
      iterate_same l.states l.states (λ set. mean l f (with_set e name set)) (λ set. mean l f (with_set d name set)) (λ t. ⊥)
      (turn name f (agree f) e d absent but) s h
  agree (Nu name f) e d absent but s h =
      iterate_same l.states l.states (λ set. mean l f (with_set e name set)) (λ set. mean l f (with_set d name set)) (λ t. Unit {0})
      (turn name f (agree f) e d absent but) s h

-- for a binder's formula in which its variable isn't free, one turn from any set gives every later iterate
pub one_turn : (l : System) → IsSystem l → (name : List ℕ) (f : Formula) (e : Env) (U P : ℕ → Type 0) (marks : List Bool) → is_free_in name f ≡ false
    → 0 < l.states
    → MarksOf l.states marks (mean l f (with_set e name U)) → MarksOf l.states marks (iterate l.states (λ set. mean l f (with_set e name set)) P)
one_turn l ok name f e U P marks absent some made = at l.states some made
  where
    but : (V : ℕ → Type 0) → SameBut l.states name (with_set e name U) (with_set e name V)
    but V other apart s h = rw apart ((λ y. y, λ y. y))

    at : (n : ℕ) → 0 < n → MarksOf l.states marks (mean l f (with_set e name U)) → MarksOf l.states marks (iterate n (λ set. mean l f (with_set e name set)) P)
    at zero none m = absurd (omega (arith, none))
    at (suc n) _ m =
        let last = iterate n (λ set. mean l f (with_set e name set)) P in
        marks_same l.states marks _ _ m (agree l ok name f (with_set e name U) (with_set e name last) absent (but last))
