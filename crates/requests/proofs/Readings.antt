-- What was read, and why it was not.
use Rattle.std.proofs.Common.{◌≡◌, ◌∙◌, ℕ, List, Some, Ok, Err, ap, refl, subst, sym}
use Rattle.std.specs.Prelude.{IfSome, IfOk, IfErr, IsErrAnd, MatchResult, Option, Result}
use Rattle.std.proofs.lemmas.Result.{IfOk-at_ok, IfOk-weaker}
use Rattle.systems.specs.System.{System}
use Rattle.lts.specs.Aut.{IsAut}
use Rattle.calculus.specs.Tree.{Formula}
use Rattle.requests.specs.declared.error.MuError.{MuError}
use Rattle.requests.specs.Check.{AreSpelled}
use Rattle.requests.specs.Texts.{IsFormulaOf}

-- what is said of known bytes, at them
pub at_known : (P : List ℕ → Type 0) (known : Option (List ℕ)) (text : List ℕ) → known ≡ Some text → IfSome known P → P text
at_known P known text e h = subst (λ o. IfSome o P) e h

-- what both texts spell
pub spelled_of : (first second : List ℕ) (known : Option (List ℕ)) (l : System) (f : Formula) → known ≡ Some first → IfSome known (λ text. IsAut text l)
    → IfSome known (λ text. (other : System) → IsAut text other → other ≡ l) → IsFormulaOf second f → AreSpelled first second l f
spelled_of first second known l f e system only formula = record {
  system = record {
    spelled = at_known (λ text. IsAut text l) known first e system;
    only = at_known (λ text. (other : System) → IsAut text other → other ≡ l) known first e only;
  };
  formula = formula;
}

-- An answer where errors were turned into others was one before.
pub was_ok : {T E : Type 0} → (r : Result T E) (x : T) → MatchResult r (λ y. ◌≡◌ {A = Result T MuError} (Ok x) (Ok y)) (λ e. ⊥) → r ≡ Ok x
was_ok (Ok y) x h = cc
was_ok (Err e) x h = absurd h

-- What holds of an answer holds of it too where errors were turned into others.
pub ok_before : {T E : Type 0} → (r : Result T E) (x : T) (P : T → Type 0) → MatchResult r (λ y. ◌≡◌ {A = Result T MuError} (Ok x) (Ok y)) (λ e. ⊥)
    → IfOk r P → P x
ok_before r x P h p = IfOk-at_ok P (was_ok r x h) p

pub ok_after : {T E : Type 0} → (Q : E → MuError → Type 0) (r : Result T E) (s : Result T MuError) (P : T → Type 0)
    → MatchResult r (λ x. s ≡ Ok x) (λ e. IsErrAnd s (Q e)) → IfOk r P → IfOk s P
ok_after Q (Ok x) s P h p = subst (λ y. IfOk y P) (sym h) p
ok_after Q (Err e) (Ok x) P h p = absurd h
ok_after Q (Err e) (Err d) P h p = tt

ok_both : {T E : Type 0} → (r : Result T E) (P Q : T → Type 0) → IfOk r P → IfOk r Q → IfOk r (λ x. P x × Q x)
ok_both (Ok x) P Q h k = (h, k)
ok_both (Err e) P Q h k = tt

-- both at once
pub ok_after_both : {T E : Type 0} → (L : E → MuError → Type 0) (r : Result T E) (s : Result T MuError) (P Q R : T → Type 0)
    → MatchResult r (λ x. s ≡ Ok x) (λ e. IsErrAnd s (L e)) → IfOk r P → IfOk r Q
    → ((x : T) → P x → Q x → R x) → IfOk s R
ok_after_both L r s P Q R h p q f = ok_after L r s R h (IfOk-weaker r (λ x. P x × Q x) R (λ x k. f x k.0 k.1) (ok_both r P Q p q))

-- What holds of what an error was turned into holds of the refusal.
pub err_after : {T E : Type 0} → (make : E → MuError) (r : Result T E) (s : Result T MuError) (P : MuError → Type 0)
    → MatchResult r (λ x. s ≡ Ok x) (λ e. IsErrAnd s (λ d. d ≡ make e)) → IfErr r (λ e. P (make e))
    → IfErr s P
err_after make (Ok x) s P h p = subst (λ y. IfErr y P) (sym h) tt
err_after make (Err e) (Ok x) P h p = absurd h
err_after make (Err e) (Err d) P h p = subst P (sym h) p

-- What a refusal that is handed on was.
pub was_err : {T E : Type 0} → (r : Result T E) (e : E) → IsErrAnd r (λ x. x ≡ e) → r ≡ Err e
was_err (Ok x) e h = absurd h
was_err (Err x) e h = ap Err h

-- The same where errors were turned into others.
pub was_turned : {T U E : Type 0} → (make : E → MuError) (r : Result T E) (e : MuError) (s : Result U MuError)
    → MatchResult r (λ x. ◌≡◌ {A = Result T MuError} (Err e) (Ok x)) (λ d. e ≡ make d) → IsErrAnd s (λ y. y ≡ e)
    → (d : E) × (r ≡ Err d) × (s ≡ Err (make d))
was_turned make (Ok x) e s h k = absurd (cc)
was_turned make (Err d) e s h k = (d, refl, was_err s e k ∙ ap Err h)
