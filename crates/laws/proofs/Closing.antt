-- The normal form of an admitted formula is closed.
use Rattle.std.proofs.Common.{◌≡◌, ℕ, ◌+◌, ◌⊎◌, Bool, true, not, List, [], ◌∷◌, refl, sym, ◌∙◌, subst, inl, inr, true≢false}
use Rattle.std.specs.Str.{bytes_eq}
use Rattle.calculus.specs.Tree.{Regular, Step, Then, Either, Star, Plus, Formula, True, False, Var, Not, And, Or, Implies, Dia, Box, Mu, Nu}
use Rattle.calculus.specs.Admitted.{Scope, negated, is_free_to_stand, is_admitted_in, IsAdmitted}
use Rattle.calculus.specs.NormalTree.{Norm, Variable, size, two, loop_of, modal, with_binder, norm, normal_form}
use Rattle.laws.specs.Admissible.{IsClosed}
use Rattle.laws.proofs.Flags.{cases, both, if_true, if_false}
use Rattle.laws.proofs.Trees.{Binds, binds_map, to_free}

-- the name is bound
IsIn : List ℕ → Scope → Type 0
IsIn name [] = ⊥
IsIn name (b ∷ scope) = (bytes_eq name b.0 ≡ true) ⊎ IsIn name scope

stands_in : (name : List ℕ) (scope : Scope) → is_free_to_stand name scope ≡ true → IsIn name scope
unfolding IsIn
stands_in name [] h = absurd (true≢false (sym h))
stands_in name (b ∷ scope) h = elim (cases (bytes_eq name b.0)) [
  | inl e ↦ inl e
  | inr e ↦ inr (stands_in name scope (sym (if_false (bytes_eq name b.0) b.1 (is_free_to_stand name scope) e) ∙ h))
]

negated_in : (name : List ℕ) (scope : Scope) → IsIn name (negated scope) → IsIn name scope
unfolding IsIn
negated_in name [] h = h
negated_in name (b ∷ scope) (inl e) = inl e
negated_in name (b ∷ scope) (inr i) = inr (negated_in name scope i)

binds_two : (P : ℕ → Type 0) (flag : Bool) (left right : ℕ → Norm) (at : ℕ) → ((k : ℕ) → Binds P k (left k)) → ((k : ℕ) → Binds P k (right k))
    → Binds P at (two flag left right at)
binds_two P flag left right at x y = (x (at + 1), y (at + 1 + size (left (at + 1))))

binds_loop : (P : ℕ → Type 0) (flag : Bool) (step : (ℕ → Norm) → ℕ → Norm) (f : ℕ → Norm) (at : ℕ)
    → ((Q : ℕ → Type 0) (g : ℕ → Norm) → ((k : ℕ) → Binds Q k (g k)) → (k : ℕ) → Binds Q k (step g k)) → ((k : ℕ) → Binds P k (f k))
    → Binds P at (loop_of flag step f at)
binds_loop P flag step f at each x =
    binds_two (λ b. (b ≡ at) ⊎ P b) flag f (step (λ _. Variable at)) (at + 1) (λ k. binds_map P (λ b. (b ≡ at) ⊎ P b) k (f k) (λ b p. inr p) (x k))
    (each (λ b. (b ≡ at) ⊎ P b) (λ _. Variable at) (λ k. inl refl))

binds_modal : (flag : Bool) (r : Regular) (P : ℕ → Type 0) (f : ℕ → Norm) → ((k : ℕ) → Binds P k (f k)) → (at : ℕ) → Binds P at (modal flag r f at)
binds_modal flag (Step a) P f x at = x (at + 1)
binds_modal flag (Then r s) P f x at = binds_modal flag r P (modal flag s f) (binds_modal flag s P f x) at
binds_modal flag (Either r s) P f x at = binds_two P flag (modal flag r f) (modal flag s f) at (binds_modal flag r P f x) (binds_modal flag s P f x)
binds_modal flag (Star r) P f x at = binds_loop P flag (modal flag r) f at (λ Q g y k. binds_modal flag r Q g y k) x
binds_modal flag (Plus r) P f x at = binds_modal flag r P (loop_of flag (modal flag r) f)
    (λ k. binds_loop P flag (modal flag r) f k (λ Q g y j. binds_modal flag r Q g y j) x) at

-- the binders of the names of the scope
abbrev Names : (ℕ → Type 0) → (List ℕ → ℕ) → Scope → Type 0
Names P binders scope = (name : List ℕ) → IsIn name scope → P (binders name)

inner_names : (P : ℕ → Type 0) (binders : List ℕ → ℕ) (scope : Scope) (name : List ℕ) (at : ℕ) → Names P binders scope
    → Names (λ b. (b ≡ at) ⊎ P b) (with_binder binders name at) ((name, true) ∷ scope)
unfolding IsIn
inner_names P binders scope name at x other (inl e) = inl (if_true (bytes_eq other name) at (binders other) e)
inner_names P binders scope name at x other (inr i) = elim (cases (bytes_eq other name)) [
  | inl e ↦ inl (if_true (bytes_eq other name) at (binders other) e)
  | inr e ↦ inr (subst P (sym (if_false (bytes_eq other name) at (binders other) e)) (x other i))
]

binds_norm : (f : Formula) (flag : Bool) (P : ℕ → Type 0) (binders : List ℕ → ℕ) (scope : Scope) → Names P binders scope → is_admitted_in scope f ≡ true
    → (at : ℕ)
    → Binds P at (norm flag binders f at)
binds_norm True flag P binders scope x h at = tt
binds_norm False flag P binders scope x h at = tt
binds_norm (Var name) flag P binders scope x h at = x name (stands_in name scope h)
binds_norm (Not f) flag P binders scope x h at = binds_norm f (not flag) P binders (negated scope) (λ name i. x name (negated_in name scope i)) h at
binds_norm (And f g) flag P binders scope x h at =
    let w = both (is_admitted_in scope f) (is_admitted_in scope g) h in
    binds_two P (not flag) (norm flag binders f) (norm flag binders g) at (binds_norm f flag P binders scope x w.0) (binds_norm g flag P binders scope x w.1)
binds_norm (Or f g) flag P binders scope x h at =
    let w = both (is_admitted_in scope f) (is_admitted_in scope g) h in
    binds_two P flag (norm flag binders f) (norm flag binders g) at (binds_norm f flag P binders scope x w.0) (binds_norm g flag P binders scope x w.1)
binds_norm (Implies f g) flag P binders scope x h at =
    let w = both (is_admitted_in (negated scope) f) (is_admitted_in scope g) h in
    binds_two P flag (norm (not flag) binders f) (norm flag binders g) at (binds_norm f (not flag) P binders (negated scope)
    (λ name i. x name (negated_in name scope i)) w.0) (binds_norm g flag P binders scope x w.1)
binds_norm (Dia r f) flag P binders scope x h at = binds_modal flag r P (norm flag binders f) (binds_norm f flag P binders scope x h) at
binds_norm (Box r f) flag P binders scope x h at = binds_modal (not flag) r P (norm flag binders f) (binds_norm f flag P binders scope x h) at
binds_norm (Mu name f) flag P binders scope x h at = binds_norm f flag (λ b. (b ≡ at) ⊎ P b) (with_binder binders name at) ((name, true) ∷ scope)
    (inner_names P binders scope name at x) h (at + 1)
binds_norm (Nu name f) flag P binders scope x h at = binds_norm f flag (λ b. (b ≡ at) ⊎ P b) (with_binder binders name at) ((name, true) ∷ scope)
    (inner_names P binders scope name at x) h (at + 1)

no_names : (P : ℕ → Type 0) (binders : List ℕ → ℕ) → Names P binders []
unfolding IsIn
no_names P binders name h = absurd h

-- no variable of the normal form is without its binder
pub normal_closed : (f : Formula) → IsAdmitted f → IsClosed (normal_form f)
normal_closed f h = to_free (λ b. ⊥) 0 (normal_form f) (binds_norm f true (λ b. ⊥) (λ _. 0) [] (no_names (λ b. ⊥) (λ _. 0)) h 0)
