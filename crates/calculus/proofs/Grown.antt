-- The meaning of an admitted formula grows with the sets of its variables.
use Rattle.std.proofs.Common.{◌≡◌, ℕ, zero, suc, ◌<◌, Bool, true, false, not, List, [], ◌∷◌, refl, sym, ◌∙◌, inl, inr, true≢false}
use Rattle.std.specs.Prelude.{IsTrue, MatchBool, if◌then◌else◌}
use Rattle.std.specs.Str.{bytes_eq}
use Rattle.systems.specs.System.{System, IsSystem}
use Rattle.calculus.specs.Tree.{Formula, True, False, Var, Not, And, Or, Implies, Dia, Box, Mu, Nu}
use Rattle.calculus.specs.Admitted.{Scope, negated, is_free_to_stand, is_admitted_in}
use Rattle.calculus.specs.Meaning.{Env, with_set, iterate, mean}
use Rattle.std.proofs.lemmas.Bool.{and_parts}
use Rattle.calculus.proofs.Inside.{leads_inside}
use Rattle.calculus.proofs.Fixpoints.{IsWithin}

-- a name may stand below two negations where it may stand below none
twice : (name : List ℕ) (scope : Scope) → is_free_to_stand name (negated (negated scope)) ≡ is_free_to_stand name scope
twice name [] = refl
twice name (binder ∷ scope) = chosen (bytes_eq name binder.0) binder.1 (is_free_to_stand name (negated (negated scope))) (is_free_to_stand name scope)
    (twice name scope)
  where
    chosen : (b even : Bool) (x y : Bool) → x ≡ y → (if b then not (not even) else x) ≡ (if b then even else y)
    chosen true true x y e = refl
    chosen true false x y e = refl
    chosen false even x y e = e

abbrev pub More : ℕ → Scope → Env → Env → Type 0
More n scope e d = (name : List ℕ) → is_free_to_stand name scope ≡ true → IsWithin n (e name) (d name)

-- more of the names that may stand here, less of those that may stand below one more negation
abbrev pub Grows : ℕ → Scope → Env → Env → Type 0
Grows n scope e d = More n scope e d × More n (negated scope) d e

turned : (n : ℕ) (scope : Scope) (e d : Env) → Grows n scope e d → Grows n (negated scope) d e
turned n scope e d grows = (grows.1, λ name stands s lt h. grows.0 name (sym (twice name scope) ∙ stands) s lt h)

more_at : (n : ℕ) (scope : Scope) (e d : Env) (b : Bool) (U V : ℕ → Type 0) → (b ≡ true → IsWithin n U V) → More n scope e d → (other : List ℕ) (c : Bool)
    → (if c then b else is_free_to_stand other scope) ≡ true →
    (s : ℕ) → s < n → MatchBool c (U s) (e other s) → MatchBool c (V s) (d other s)
more_at n scope e d b U V own more other true stands s lt h = own stands s lt h
more_at n scope e d b U V own more other false stands s lt h = more other stands s lt h

pub inner_grows : (n : ℕ) (scope : Scope) (e d : Env) (name : List ℕ) (U V : ℕ → Type 0) → IsWithin n U V → Grows n scope e d
    → Grows n ((name, true) ∷ scope) (with_set e name U) (with_set d name V)
inner_grows n scope e d name U V own grows = (
  λ other stands s lt h. more_at n scope e d true U V (λ yes. own) grows.0 other (bytes_eq other name) stands s lt h,
  λ other stands s lt h. more_at n (negated scope) d e false V U (λ no. absurd (true≢false (sym no))) grows.1 other (bytes_eq other name) stands s lt h,
)

iterates_grow : (n k : ℕ) (F G : (ℕ → Type 0) → ℕ → Type 0) (P : ℕ → Type 0) → ((U V : ℕ → Type 0) → IsWithin n U V → IsWithin n (F U) (G V))
    → IsWithin n (iterate k F P) (iterate k G P)
iterates_grow n zero F G P step s lt h = h
iterates_grow n (suc k) F G P step s lt h = step (iterate k F P) (iterate k G P) (iterates_grow n k F G P step) s lt h

module _ (l : System) (ok : IsSystem l) where
  pub grown : (f : Formula) (scope : Scope) (e d : Env) → IsTrue (is_admitted_in scope f) → Grows l.states scope e d
      → IsWithin l.states (mean l f e) (mean l f d)
  grown True scope e d p grows s lt h = tt
  grown False scope e d p grows s lt h = h
  grown (Var name) scope e d p grows s lt h = grows.0 name p s lt h
  grown (Not f) scope e d p grows s lt h = λ m. h (grown f (negated scope) d e p (turned l.states scope e d grows) s lt m)
  grown (And f g) scope e d p grows s lt h =
      let w = and_parts (is_admitted_in scope f) (is_admitted_in scope g) p in
      (grown f scope e d w.0 grows s lt h.0, grown g scope e d w.1 grows s lt h.1)
  grown (Or f g) scope e d p grows s lt h =
      let w = and_parts (is_admitted_in scope f) (is_admitted_in scope g) p in
      elim h [ inl k ↦ inl (grown f scope e d w.0 grows s lt k) | inr k ↦ inr (grown g scope e d w.1 grows s lt k) ]
  grown (Implies f g) scope e d p grows s lt h =
      let w = and_parts (is_admitted_in (negated scope) f) (is_admitted_in scope g) p in
      λ m. grown g scope e d w.1 grows s lt (h (grown f (negated scope) d e w.0 (turned l.states scope e d grows) s lt m))
  grown (Dia r f) scope e d p grows s lt h = (h.0, h.1, grown f scope e d p grows h.0 (leads_inside l ok r s h.0 lt h.1) h.2)
  grown (Box r f) scope e d p grows s lt h = λ t go. grown f scope e d p grows t (leads_inside l ok r s t lt go) (h t go)
  grown (Mu name f) scope e d p grows s lt h =
      iterates_grow l.states l.states (λ set. mean l f (with_set e name set)) (λ set. mean l f (with_set d name set)) (λ t. ⊥)
      (λ U V uv. grown f ((name, true) ∷ scope) (with_set e name U) (with_set d name V) p (inner_grows l.states scope e d name U V uv grows)) s lt h
  grown (Nu name f) scope e d p grows s lt h =
      iterates_grow l.states l.states (λ set. mean l f (with_set e name set)) (λ set. mean l f (with_set d name set)) (λ t. Unit {0})
      (λ U V uv. grown f ((name, true) ∷ scope) (with_set e name U) (with_set d name V) p (inner_grows l.states scope e d name U V uv grows)) s lt h
