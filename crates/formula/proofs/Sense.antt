-- A written formula means something just where it has no faults of operands, and an admitted formula just where it has none of variables either.
use Rattle.std.specs.Prelude.{◌≡◌, ℕ, ◌+◌, Bool, true, false, ◌&&◌, List, [], ◌∷◌, ◌++◌, IsTrue, IsSome, Option, Some, None, option_map, refl, if◌then◌else◌}
use Rattle.std.specs.Option.{is_some}
use Rattle.std.specs.Str.{bytes_eq}
use Rattle.std.proofs.Common.{sym, ◌∙◌, ap}
use Rattle.calculus.specs.Tree.{Formula, Not, And, Or, Implies, Dia, Box, Mu, Nu}
use Rattle.grammar.specs.Syntax.{RegSyntax, Parens', Not', And', Or', Implies', Star', Plus', Then', Either', counts_as_action, action_meant, regular_meant}
use Rattle.grammar.specs.Syntax.{option_two, Syntax, True', False', Var', Group', Neg', Both', OneOf', If', Dia', Box', Mu', Nu', meant}
use Rattle.calculus.specs.Admitted.{Scope, negated, is_free_to_stand, is_admitted_in}
use Rattle.formula.specs.Fault.{operand_fault, reg_faults, operand_faults, variable_fault, variable_faults}
use Rattle.formula.specs.declared.error.FormulaFault.TheVariants.{OddNegations}

abbrev none : {A : Type 0} → List A → Bool
none [] = true
none (x ∷ xs) = false

is_none : {A : Type 0} (xs : List A) → none xs ≡ true → xs ≡ []
is_none [] h = refl
is_none (x ∷ xs) h = cc

none_both : {A : Type 0} (xs ys : List A) (b d : Bool) → none xs ≡ b → none ys ≡ d → none (xs ++ ys) ≡ (b && d)
none_both [] ys b d h k = λ i. h i && k i
none_both (x ∷ xs) ys b d h k = λ i. h i && k i

some_one : {A B : Type 0} (f : A → B) (xs : List ℕ) (o : Option A) → none xs ≡ is_some o → none xs ≡ is_some (option_map f o)
some_one f xs (Some a) h = h
some_one f xs None h = h

some_both : {A B C : Type 0} (f : A → B → C) (xs ys : List ℕ) (o : Option A) (p : Option B) → none xs ≡ is_some o → none ys ≡ is_some p
    → none (xs ++ ys) ≡ is_some (option_two f o p)
some_both f xs ys (Some a) (Some b) h k = none_both xs ys _ _ h k
some_both f xs ys (Some a) None h k = none_both xs ys _ _ h k
some_both f xs ys None p h k = none_both xs ys _ _ h k

-- an operand that is an action formula throughout
IsAction : RegSyntax → ℕ → Type 0
IsAction r at = (counts_as_action r && none (reg_faults at r)) ≡ is_some (action_meant r)

operand : (r : RegSyntax) (at : ℕ) → IsAction r at → none (operand_fault r at (reg_faults at r)) ≡ is_some (action_meant r)
unfolding IsAction
operand r at h = by_cases (counts_as_action r) ∙ h
  where
    by_cases : (b : Bool) → none (if b then reg_faults at r else at ∷ reg_faults at r) ≡ (b && none (reg_faults at r))
    by_cases true = refl
    by_cases false = refl

action_same : (r : RegSyntax) (at : ℕ) → IsAction r at
unfolding IsAction
action_same (Parens' r) at = action_same r (at + 1)
action_same (Not' r) at = some_one _ _ _ (operand r _ (action_same r _))
action_same (And' r s) at = some_both _ _ _ _ _ (operand r _ (action_same r _)) (operand s _ (action_same s _))
action_same (Or' r s) at = some_both _ _ _ _ _ (operand r _ (action_same r _)) (operand s _ (action_same s _))
action_same (Implies' r s) at = some_both _ _ _ _ _ (operand r _ (action_same r _)) (operand s _ (action_same s _))
action_same _ at = refl

regular_same : (r : RegSyntax) (at : ℕ) → none (reg_faults at r) ≡ is_some (regular_meant r)
regular_same (Parens' r) at = regular_same r (at + 1)
regular_same (Not' r) at = some_one _ _ _ (operand r _ (action_same r _))
regular_same (And' r s) at = some_both _ _ _ _ _ (operand r _ (action_same r _)) (operand s _ (action_same s _))
regular_same (Or' r s) at = some_both _ _ _ _ _ (operand r _ (action_same r _)) (operand s _ (action_same s _))
regular_same (Implies' r s) at = some_both _ _ _ _ _ (operand r _ (action_same r _)) (operand s _ (action_same s _))
regular_same (Star' r) at = some_one _ _ _ (regular_same r at)
regular_same (Plus' r) at = some_one _ _ _ (regular_same r at)
regular_same (Then' r s) at = some_both _ _ _ _ _ (regular_same r at) (regular_same s _)
regular_same (Either' r s) at = some_both _ _ _ _ _ (regular_same r at) (regular_same s _)
regular_same _ at = refl

meant_same : (s : Syntax) (at : ℕ) → none (operand_faults at s) ≡ is_some (meant s)
meant_same (Group' f) at = meant_same f (at + 1)
meant_same (Neg' f) at = some_one _ _ _ (meant_same f (at + 1))
meant_same (Both' f g) at = some_both _ _ _ _ _ (meant_same f at) (meant_same g _)
meant_same (OneOf' f g) at = some_both _ _ _ _ _ (meant_same f at) (meant_same g _)
meant_same (If' f g) at = some_both _ _ _ _ _ (meant_same f at) (meant_same g _)
meant_same (Dia' r f) at = some_both _ _ _ _ _ (regular_same r (at + 1)) (meant_same f _)
meant_same (Box' r f) at = some_both _ _ _ _ _ (regular_same r (at + 1)) (meant_same f _)
meant_same (Mu' name f) at = some_one _ _ _ (meant_same f (at + 3))
meant_same (Nu' name f) at = some_one _ _ _ (meant_same f (at + 3))
meant_same _ at = refl

pub meant_some : (s : Syntax) (at : ℕ) → operand_faults at s ≡ [] → IsSome (meant s)
meant_some s at e = sym (meant_same s at) ∙ ap none e

pub meant_fine : (s : Syntax) (at : ℕ) → IsSome (meant s) → operand_faults at s ≡ []
meant_fine s at h = is_none _ (meant_same s at ∙ h)

odd : {A : Type 0} (b : Bool) (x : A) → none (if b then [] else x ∷ []) ≡ b
odd true x = refl
odd false x = refl

variable_same : (name : List ℕ) (scope : Scope) (at : ℕ) → none (variable_fault name scope at) ≡ is_free_to_stand name scope
variable_same name [] at = refl
variable_same name (binder ∷ scope) at =
    elim (bytes_eq name binder.0) as (λ b. none (if b then (if binder.1 then [] else (at, OddNegations) ∷ []) else variable_fault name scope at)
    ≡ (if b then binder.1 else is_free_to_stand name scope)) [
      | true ↦ odd binder.1 (at, OddNegations)
      | false ↦ variable_same name scope at
    ]

some_same : {A : Type 0} (a b : A) → Some a ≡ Some b → a ≡ b
some_same a b e = cc

from_map : {A B : Type 0} (f : A → B) (o : Option A) (b : B) → option_map f o ≡ Some b → (a : A) × (o ≡ Some a) × (f a ≡ b)
from_map f (Some a) b e = (a, refl, cc)
from_map f None b e = cc

from_two : {A B C : Type 0} (f : A → B → C) (o : Option A) (p : Option B) (c : C) → option_two f o p ≡ Some c → (a : A) × (b : B) × (o ≡ Some a)
    × (p ≡ Some b) × (f a b ≡ c)
from_two f (Some a) (Some b) c e = (a, b, refl, refl, cc)
from_two f (Some a) None c e = cc
from_two f None p c e = cc

admitted_same : (s : Syntax) (scope : Scope) (at : ℕ) (f : Formula) → meant s ≡ Some f → none (variable_faults scope at s) ≡ is_admitted_in scope f
admitted_same True' scope at f m = ap (is_admitted_in scope) (some_same _ _ m)
admitted_same False' scope at f m = ap (is_admitted_in scope) (some_same _ _ m)
admitted_same (Var' name) scope at f m = variable_same name scope at ∙ ap (is_admitted_in scope) (some_same _ _ m)
admitted_same (Group' g) scope at f m = admitted_same g scope (at + 1) f m
admitted_same (Neg' g) scope at f m = let w = from_map Not (meant g) f m in admitted_same g (negated scope) _ w.0 w.1 ∙ ap (is_admitted_in scope) w.2
admitted_same (Both' g h) scope at f m = let w = from_two And (meant g) (meant h) f m in
    none_both _ _ _ _ (admitted_same g scope at w.0 w.2) (admitted_same h scope _ w.1 w.3) ∙ ap (is_admitted_in scope) w.4
admitted_same (OneOf' g h) scope at f m = let w = from_two Or (meant g) (meant h) f m in
    none_both _ _ _ _ (admitted_same g scope at w.0 w.2) (admitted_same h scope _ w.1 w.3) ∙ ap (is_admitted_in scope) w.4
admitted_same (If' g h) scope at f m = let w = from_two Implies (meant g) (meant h) f m in
    none_both _ _ _ _ (admitted_same g (negated scope) at w.0 w.2) (admitted_same h scope _ w.1 w.3) ∙ ap (is_admitted_in scope) w.4
admitted_same (Dia' r g) scope at f m = let w = from_two Dia (regular_meant r) (meant g) f m in admitted_same g scope _ w.1 w.3 ∙ ap (is_admitted_in scope) w.4
admitted_same (Box' r g) scope at f m = let w = from_two Box (regular_meant r) (meant g) f m in admitted_same g scope _ w.1 w.3 ∙ ap (is_admitted_in scope) w.4
admitted_same (Mu' name g) scope at f m = let w = from_map (Mu name) (meant g) f m in admitted_same g ((name, true) ∷ scope) _ w.0 w.1
    ∙ ap (is_admitted_in scope) w.2
admitted_same (Nu' name g) scope at f m = let w = from_map (Nu name) (meant g) f m in admitted_same g ((name, true) ∷ scope) _ w.0 w.1
    ∙ ap (is_admitted_in scope) w.2

pub admitted_in : (s : Syntax) (scope : Scope) (at : ℕ) (f : Formula) → variable_faults scope at s ≡ [] → meant s ≡ Some f → IsTrue (is_admitted_in scope f)
admitted_in s scope at f e m = sym (admitted_same s scope at f m) ∙ ap none e

pub admitted_fine : (s : Syntax) (scope : Scope) (at : ℕ) (f : Formula) → meant s ≡ Some f → IsTrue (is_admitted_in scope f) → variable_faults scope at s ≡ []
admitted_fine s scope at f m h = is_none _ (admitted_same s scope at f m ∙ h)
