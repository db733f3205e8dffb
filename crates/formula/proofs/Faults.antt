-- What the faults of a written formula are, from those of its parts.
use Rattle.std.specs.Prelude.{◌≡◌, ℕ, ◌+◌, ◌*◌, ◌<◌, ◌≤◌, true, false, List, [], ◌∷◌, ◌++◌, length, Some, Err, slice_get, refl, if◌then◌else◌}
use Rattle.std.proofs.Common.{arith, sym, ap, true≢false}
use Rattle.std.proofs.lemmas.List.{length-append}
use Rattle.grammar.specs.Token.{AndSign, OrSign, ImpliesSign, Dot, ChoiceSign, StarSign, PlusSign}
use Rattle.grammar.specs.Syntax.{RegSyntax, And', Or', Implies', Star', Plus', Then', Either', reg_tokens, more_names, counts_as_action}
use Rattle.formula.specs.Fault.{operand_fault, reg_faults}
use Rattle.grammar.specs.Written.{infixed, joins_actions, infix_token}
use Rattle.formula.specs.Checked.{IsChecked}
use Rattle.grammar.specs.declared.written.Infix.{Infix}
use Rattle.grammar.specs.declared.written.Infix.TheVariants as sign
use Rattle.grammar.proofs.Regulars.{infixed-tokens}

pub names-count : (names : List (List ℕ)) → length (more_names names) ≡ 2 * length names
names-count [] = refl
names-count (name ∷ names) = let e = names-count names in omega arith

some-more : {A : Type 0} (xs ys : List A) → 0 < length xs → 0 < length (xs ++ ys)
some-more xs ys h = omega (arith, length-append xs ys)

pub reg-some : (r : RegSyntax) → 0 < length (reg_tokens r)
reg-some (And' r s) = some-more (reg_tokens r) (AndSign ∷ reg_tokens s) (reg-some r)
reg-some (Or' r s) = some-more (reg_tokens r) (OrSign ∷ reg_tokens s) (reg-some r)
reg-some (Implies' r s) = some-more (reg_tokens r) (ImpliesSign ∷ reg_tokens s) (reg-some r)
reg-some (Star' r) = some-more (reg_tokens r) (StarSign ∷ []) (reg-some r)
reg-some (Plus' r) = some-more (reg_tokens r) (PlusSign ∷ []) (reg-some r)
reg-some (Then' r s) = some-more (reg_tokens r) (Dot ∷ reg_tokens s) (reg-some r)
reg-some (Either' r s) = some-more (reg_tokens r) (ChoiceSign ∷ reg_tokens s) (reg-some r)
reg-some _ = omega arith

pub first-left : {A : Type 0} (xs ys : List A) (x : A) → slice_get xs 0 ≡ Some x → slice_get (xs ++ ys) 0 ≡ Some x
first-left [] ys x e = cc
first-left (y ∷ xs) ys x e = e

pub operand-first : (r : RegSyntax) (at : ℕ) → counts_as_action r ≡ false → IsChecked (operand_fault r at (reg_faults at r)) at (length (reg_tokens r)) (Err at)
operand-first r at e =
    let some = reg-some r in
    (ap (λ b. slice_get (if b then reg_faults at r else at ∷ reg_faults at r) 0) e, omega arith)

-- the first fault on the left side is the first
left-first : (xs ys : List ℕ) (at n m : ℕ) (place : ℕ) → IsChecked xs at n (Err place) → n ≤ m → IsChecked (xs ++ ys) at m (Err place)
left-first xs ys at n m place h le = (first-left xs ys place h.0, let w : place < at + n = h.1 in omega arith)

pub joined-shorter : (mark : Infix) (r s : RegSyntax) → length (reg_tokens r) ≤ length (reg_tokens (infixed mark r s))
joined-shorter mark r s = let e = ap length (infixed-tokens mark r s) in omega (arith, length-append (reg_tokens r) (infix_token mark ∷ reg_tokens s))

pub actions-first : (mark : Infix) (r s : RegSyntax) (at place : ℕ) → joins_actions mark ≡ true
    → IsChecked (operand_fault r at (reg_faults at r)) at (length (reg_tokens r)) (Err place)
    → IsChecked (reg_faults at (infixed mark r s)) at (length (reg_tokens (infixed mark r s))) (Err place)
actions-first sign.And r s at place e h = left-first _ _ at _ _ place h (joined-shorter sign.And r s)
actions-first sign.Or r s at place e h = left-first _ _ at _ _ place h (joined-shorter sign.Or r s)
actions-first sign.Implies r s at place e h = left-first _ _ at _ _ place h (joined-shorter sign.Implies r s)
actions-first sign.Then r s at place e h = absurd (true≢false (sym e))
actions-first sign.Either r s at place e h = absurd (true≢false (sym e))

pub regulars-first : (mark : Infix) (r s : RegSyntax) (at place : ℕ) → joins_actions mark ≡ false
    → IsChecked (reg_faults at r) at (length (reg_tokens r)) (Err place)
    → IsChecked (reg_faults at (infixed mark r s)) at (length (reg_tokens (infixed mark r s))) (Err place)
regulars-first sign.And r s at place e h = absurd (true≢false e)
regulars-first sign.Or r s at place e h = absurd (true≢false e)
regulars-first sign.Implies r s at place e h = absurd (true≢false e)
regulars-first sign.Then r s at place e h = left-first _ _ at _ _ place h (joined-shorter sign.Then r s)
regulars-first sign.Either r s at place e h = left-first _ _ at _ _ place h (joined-shorter sign.Either r s)
