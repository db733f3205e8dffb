-- What the faults of variables are, from those of the parts.
use Rattle.std.specs.Prelude.{◌≡◌, ℕ, ◌+◌, ◌<◌, Bool, true, false, not, List, [], ◌∷◌, ◌++◌, length, Result, Ok, Err, slice_get, refl}
use Rattle.std.proofs.Common.{arith, sym, ◌∙◌, ap, subst}
use Rattle.std.proofs.lemmas.List.{length-append}
use Rattle.grammar.specs.Syntax.{Syntax, tokens, Neg'}
use Rattle.calculus.specs.Admitted.{negated}
use Rattle.formula.specs.Fault.{variable_faults}
use Rattle.grammar.specs.Written.{joined, connective_token}
use Rattle.formula.specs.Checked.{AreChecked, scope_of, left_parity, same_truth}
use Rattle.formula.specs.declared.error.FormulaFault.{FormulaFault}
use Rattle.formula.specs.declared.scope.Binders.{Binders}
use Rattle.formula.specs.declared.scope.Binders.TheVariants as binders
use Rattle.formula.specs.declared.scope.Misplaced.{Misplaced}
use Rattle.grammar.specs.declared.written.Connective.{Connective}
use Rattle.grammar.specs.declared.written.Connective.TheVariants as connective
use Rattle.formula.proofs.Faults.{first-left}
use Rattle.grammar.proofs.States.{joined-tokens}

same_truth-not : (a b : Bool) → not (same_truth a b) ≡ same_truth a (not b)
same_truth-not true b = refl
same_truth-not false true = refl
same_truth-not false false = refl

pub negated-scope : (b : Binders) (parity : Bool) → negated (scope_of b parity) ≡ scope_of b (not parity)
negated-scope binders.Empty parity = refl
negated-scope (binders.Binder' name under p outer) parity =
    ap (λ x. (name.now, x) ∷ negated (scope_of outer parity)) (same_truth-not under parity)
    ∙ ap (λ xs. (name.now, same_truth under (not parity)) ∷ xs) (negated-scope outer parity)

pub joined-variables : (mark : Connective) (b : Binders) (parity : Bool) (at : ℕ) (f g : Syntax) → variable_faults (scope_of b parity) at (joined mark f g)
    ≡ variable_faults (scope_of b (left_parity mark parity)) at f ++ variable_faults (scope_of b parity) (at + (length (tokens f) + 1)) g
joined-variables connective.And b parity at f g = refl
joined-variables connective.Or b parity at f g = refl
joined-variables connective.Implies b parity at f g = ap (λ scope. variable_faults scope at f
    ++ variable_faults (scope_of b parity) (at + (length (tokens f) + 1)) g) (negated-scope b parity)

pub joined-count : (mark : Connective) (f g : Syntax) → length (tokens (joined mark f g)) ≡ length (tokens f) + 1 + length (tokens g)
joined-count mark f g = let e = ap length (joined-tokens mark f g) in omega (arith, length-append (tokens f) (connective_token mark ∷ tokens g))

pub variables-first : (mark : Connective) (b : Binders) (parity : Bool) (at : ℕ) (f g : Syntax) (found : Misplaced)
    → AreChecked (variable_faults (scope_of b (left_parity mark parity)) at f) at (length (tokens f)) (Err found)
    → AreChecked (variable_faults (scope_of b parity) at (joined mark f g)) at (length (tokens (joined mark f g))) (Err found)
variables-first mark b parity at f g found h =
    let n = joined-count mark f g in
    let place : found.place < at + length (tokens f) = h.1 in
    (ap (λ xs. slice_get xs 0) (joined-variables mark b parity at f g) ∙ first-left _ _ _ h.0, omega arith, h.2)

pub at-end : (faults : List (ℕ × FormulaFault)) (a n b m : ℕ) (r : Result ℕ Misplaced) → AreChecked faults a n r → a + n ≡ b + m → AreChecked faults b m r
at-end faults a n b m (Ok k) h e = (h.0 ∙ e, h.1)
at-end faults a n b m (Err found) h e = (h.0, subst (λ (k : ℕ). found.place < k) e h.1, h.2)

pub variables-second : (mark : Connective) (b : Binders) (parity : Bool) (at next : ℕ) (f g : Syntax) (result : Result ℕ Misplaced)
    → variable_faults (scope_of b (left_parity mark parity)) at f ≡ [] → next ≡ at + length (tokens f)
    → AreChecked (variable_faults (scope_of b parity) (next + 1) g) (next + 1) (length (tokens g)) result
    → AreChecked (variable_faults (scope_of b parity) at (joined mark f g)) at (length (tokens (joined mark f g))) result
variables-second mark b parity at next f g result none e h =
    let places : next + 1 ≡ at + (length (tokens f) + 1) = omega arith in
    let whole : variable_faults (scope_of b parity) at (joined mark f g) ≡ variable_faults (scope_of b parity) (next + 1) g
    = joined-variables mark b parity at f g ∙ ap (λ xs. xs ++ variable_faults (scope_of b parity) (at + (length (tokens f) + 1)) g) none
    ∙ ap (λ k. variable_faults (scope_of b parity) k g) (sym places) in
    let n = joined-count mark f g in
    let ends : next + 1 + length (tokens g) ≡ at + length (tokens (joined mark f g)) = omega arith in
    at-end _ (next + 1) (length (tokens g)) at (length (tokens (joined mark f g))) result
    (subst (λ (xs : List (ℕ × FormulaFault)). AreChecked xs (next + 1) (length (tokens g)) result) (sym whole) h) ends

pub variables-under : (b : Binders) (parity : Bool) (at : ℕ) (f : Syntax) (result : Result ℕ Misplaced)
    → AreChecked (variable_faults (scope_of b (not parity)) (at + 1) f) (at + 1) (length (tokens f)) result
    → AreChecked (variable_faults (scope_of b parity) at (Neg' f)) at (length (tokens (Neg' f))) result
variables-under b parity at f result h =
    let whole : variable_faults (scope_of b (not parity)) (at + 1) f
    ≡ variable_faults (negated (scope_of b parity)) (at + 1) f = ap (λ scope. variable_faults scope (at + 1) f) (sym (negated-scope b parity)) in
    at-end _ (at + 1) (length (tokens f)) at (length (tokens (Neg' f))) result
    (subst (λ (xs : List (ℕ × FormulaFault)). AreChecked xs (at + 1) (length (tokens f)) result) whole h) (omega arith)
