-- A closed formula means the same wherever it stands.
use Rattle.std.proofs.Common.{◌≡◌, ℕ, ◌↔◌, Bool, true, false, ◌||◌, List, [], ◌∷◌, inl, inr}
use Rattle.std.specs.Prelude.{MatchBool}
use Rattle.std.specs.List.{list_any}
use Rattle.std.specs.Str.{bytes_eq}
use Rattle.std.proofs.lemmas.Bool.{and_parts}
use Rattle.systems.specs.System.{System, IsSystem}
use Rattle.calculus.specs.Tree.{Formula, True, False, Var, Not, And, Or, Implies, Dia, Box, Mu, Nu}
use Rattle.calculus.specs.Meaning.{Env, no_sets, with_set, mean, MarksOf}
use Rattle.calculus.proofs.Inside.{leads_inside}
use Rattle.calculus.proofs.Same.{Same, iterate_same}
use Rattle.meaning.specs.Free.{are_among}
use Rattle.meaning.proofs.Marked.{marks_same}

-- the same sets for these names
abbrev SameFor : ℕ → List (List ℕ) → Env → Env → Type 0
SameFor n names e d = (name : List ℕ) → list_any (bytes_eq name) names ≡ true → Same n (e name) (d name)

-- below a binder for its name, too
below : (n : ℕ) (names : List (List ℕ)) (e d : Env) (name : List ℕ) (U V : ℕ → Type 0) → SameFor n names e d → Same n U V
    → SameFor n (name ∷ names) (with_set e name U) (with_set d name V)
below n names e d name U V each same other among s h = chosen (bytes_eq other name) among
  where
    chosen : (b : Bool) → (b || list_any (bytes_eq other) names) ≡ true → MatchBool b (U s) (e other s) ↔ MatchBool b (V s) (d other s)
    chosen true _ = same s h
    chosen false rest = each other rest s h

module _ (l : System) (ok : IsSystem l) where
  alike : (f : Formula) (names : List (List ℕ)) (e d : Env) → are_among names f ≡ true → SameFor l.states names e d → Same l.states (mean l f e) (mean l f d)
  alike True names e d among each s h = (λ x. x, λ x. x)
  alike False names e d among each s h = (λ x. x, λ x. x)
  alike (Var name) names e d among each s h = each name among s h
  alike (Not f) names e d among each s h = let i = alike f names e d among each s h in (λ no x. no (i.1 x), λ no x. no (i.0 x))
  alike (And f g) names e d among each s h =
      let w = and_parts (are_among names f) (are_among names g) among in
      let i = alike f names e d w.0 each s h in let j = alike g names e d w.1 each s h in (λ x. (i.0 x.0, j.0 x.1), λ x. (i.1 x.0, j.1 x.1))
  alike (Or f g) names e d among each s h =
      let w = and_parts (are_among names f) (are_among names g) among in
      let i = alike f names e d w.0 each s h in let j = alike g names e d w.1 each s h in
      (λ x. elim x [ inl a ↦ inl (i.0 a) | inr b ↦ inr (j.0 b) ], λ x. elim x [ inl a ↦ inl (i.1 a) | inr b ↦ inr (j.1 b) ])
  alike (Implies f g) names e d among each s h =
      let w = and_parts (are_among names f) (are_among names g) among in
      let i = alike f names e d w.0 each s h in let j = alike g names e d w.1 each s h in (λ k x. j.0 (k (i.1 x)), λ k x. j.1 (k (i.0 x)))
  alike (Dia r f) names e d among each s h = (
    λ x. (x.0, x.1, (alike f names e d among each x.0 (leads_inside l ok r s x.0 h x.1)).0 x.2),
    λ x. (x.0, x.1, (alike f names e d among each x.0 (leads_inside l ok r s x.0 h x.1)).1 x.2),
  )
  alike (Box r f) names e d among each s h = (
    λ all t go. (alike f names e d among each t (leads_inside l ok r s t h go)).0 (all t go),
    λ all t go. (alike f names e d among each t (leads_inside l ok r s t h go)).1 (all t go),
  )
  alike (Mu name f) names e d among each s h =
      iterate_same l.states l.states (λ set. mean l f (with_set e name set)) (λ set. mean l f (with_set d name set)) (λ t. ⊥)
      (λ U V uv. alike f (name ∷ names) (with_set e name U) (with_set d name V) among (below l.states names e d name U V each uv)) s h
  alike (Nu name f) names e d among each s h =
      iterate_same l.states l.states (λ set. mean l f (with_set e name set)) (λ set. mean l f (with_set d name set)) (λ t. Unit {0})
      (λ U V uv. alike f (name ∷ names) (with_set e name U) (with_set d name V) among (below l.states names e d name U V each uv)) s h

  -- the states of a closed formula, in any environment
  pub marks_anywhere : (f : Formula) (e : Env) (marks : List Bool) → are_among [] f ≡ true → MarksOf l.states marks (mean l f no_sets)
      → MarksOf l.states marks (mean l f e)
  marks_anywhere f e marks closed made = marks_same l.states marks _ _ made (alike f [] no_sets e closed (λ name none. absurd cc))
