-- The canonical text of a formula that some text spells is a text of that formula.
use Rattle.std.proofs.Common.{◌≡◌, ℕ, ◌≤◌, Bool, true, false, not, ◌&&◌, List, [], ◌∷◌, ◌++◌, Some, option_map, refl, sym, ap, ◌∙◌, arith, append_assoc}
use Rattle.std.proofs.Common.{append-nil}
use Rattle.std.specs.Prelude.{nat_le}
use Rattle.std.proofs.lemmas.Bool.{le-leb, and_from}
use Rattle.calculus.specs.Tree.{Action, Names, NotAct, AndAct, OrAct, ImpliesAct, Regular, Step, Then, Either, Star, Plus, Formula, True, Not, And, Or}
use Rattle.calculus.specs.Tree.{Implies, Dia, Box, Mu, Nu}
use Rattle.calculus.specs.Canon.{canon}
use Rattle.grammar.specs.Token.{Token, ImpliesSign, OrSign, AndSign, Greater, CloseBox, Close, Dot, ChoiceSign, PlusSign, StarSign, is_after_postfix}
use Rattle.grammar.specs.Token.{is_decided}
use Rattle.grammar.specs.Syntax.{reg_form, reg_fits, reg_tokens, more_names, option_two, action_meant, regular_meant, form, ends_in_binder, left_fits, fits}
use Rattle.grammar.specs.Syntax.{tokens, meant}
use Rattle.formula.specs.Spells.{IsWritten, Spells}
use Rattle.formula.proofs.Canonical.{IsSpellableAction, IsSpellableRegular, IsSpellable, canon_action, canon_regular, canon_syntax, formula_written}

-- The tree fits.

four : (a b c d : Bool) → a ≡ true → b ≡ true → c ≡ true → d ≡ true → (a && b && c && d) ≡ true
four a b c d p q r s = and_from (a && b && c) d (and_from (a && b) c (and_from a b p q) r) s

at_most : (x j k : ℕ) → j ≤ k → x ≤ j → nat_le x k ≡ true
at_most x j k le h = le-leb x k (omega arith)

action_form : (a : Action) → reg_form (canon_action a) ≤ 1
action_form (Names []) = omega arith
action_form (Names (x ∷ names)) = omega arith
action_form _ = omega arith

action_below : (a : Action) (k : ℕ) → 1 ≤ k → nat_le (reg_form (canon_action a)) k ≡ true
action_below a k le = at_most (reg_form (canon_action a)) 1 k le (action_form a)

action_fits : (a : Action) → reg_fits (canon_action a) ≡ true
action_fits (Names []) = refl
action_fits (Names (x ∷ names)) = refl
action_fits (NotAct a) = and_from _ _ (action_below a 1 (omega arith)) (action_fits a)
action_fits (AndAct a b) = four _ _ _ _ (action_below a 1 (omega arith)) (action_below b 2 (omega arith)) (action_fits a) (action_fits b)
action_fits (OrAct a b) = four _ _ _ _ (action_below a 2 (omega arith)) (action_below b 3 (omega arith)) (action_fits a) (action_fits b)
action_fits (ImpliesAct a b) = four _ _ _ _ (action_below a 3 (omega arith)) (action_below b 4 (omega arith)) (action_fits a) (action_fits b)
action_fits _ = refl

regular_form : (r : Regular) → reg_form (canon_regular r) ≤ 5
regular_form (Step a) = omega (arith, action_form a)
regular_form _ = omega arith

regular_below : (r : Regular) (k : ℕ) → 5 ≤ k → nat_le (reg_form (canon_regular r)) k ≡ true
regular_below r k le = at_most (reg_form (canon_regular r)) 5 k le (regular_form r)

regular_fits : (r : Regular) → reg_fits (canon_regular r) ≡ true
regular_fits (Step a) = action_fits a
regular_fits (Then r s) = four _ _ _ _ (regular_below r 5 (omega arith)) (regular_below s 6 (omega arith)) (regular_fits r) (regular_fits s)
regular_fits (Either r s) = four _ _ _ _ (regular_below r 6 (omega arith)) (regular_below s 7 (omega arith)) (regular_fits r) (regular_fits s)
regular_fits (Star r) = and_from _ _ (regular_below r 5 (omega arith)) (regular_fits r)
regular_fits (Plus r) = and_from _ _ (regular_below r 5 (omega arith)) (regular_fits r)

unary : (f : Formula) → form (canon_syntax f) ≡ 0
unary True = refl
unary _ = refl

closed : (f : Formula) → ends_in_binder (canon_syntax f) ≡ false
closed (Not f) = closed f
closed (Dia r f) = closed f
closed (Box r f) = closed f
closed _ = refl

below : (f : Formula) (k : ℕ) → nat_le (form (canon_syntax f)) k ≡ true
below f k = at_most (form (canon_syntax f)) 0 k (omega arith) (omega (arith, unary f))

left_below : (f : Formula) (k : ℕ) → left_fits k (canon_syntax f) ≡ true
left_below f k = and_from _ _ (below f k) (ap not (closed f))

three : (a b c : Bool) → a ≡ true → b ≡ true → c ≡ true → (a && b && c) ≡ true
three a b c p q r = and_from (a && b) c (and_from a b p q) r

formula_fits : (f : Formula) → fits (canon_syntax f) ≡ true
formula_fits (Not f) = and_from _ _ (below f 0) (formula_fits f)
formula_fits (And f g) = four _ _ _ _ (left_below f 0) (below g 1) (formula_fits f) (formula_fits g)
formula_fits (Or f g) = four _ _ _ _ (left_below f 1) (below g 2) (formula_fits f) (formula_fits g)
formula_fits (Implies f g) = four _ _ _ _ (left_below f 2) (below g 3) (formula_fits f) (formula_fits g)
formula_fits (Dia r f) = three _ _ _ (below f 0) (regular_fits r) (formula_fits f)
formula_fits (Box r f) = three _ _ _ (below f 0) (regular_fits r) (formula_fits f)
formula_fits (Mu name f) = formula_fits f
formula_fits (Nu name f) = formula_fits f
formula_fits _ = refl

-- The tree means the formula.

pub action_again : (a : Action) → IsSpellableAction a → action_meant (canon_action a) ≡ Some a
action_again (Names []) s = refl
action_again (Names (x ∷ names)) s = ap (λ n. Some (Names n)) s.1
action_again (NotAct a) s = ap (option_map NotAct) (action_again a s)
action_again (AndAct a b) s = λ i. option_two AndAct (action_again a s.0 i) (action_again b s.1 i)
action_again (OrAct a b) s = λ i. option_two OrAct (action_again a s.0 i) (action_again b s.1 i)
action_again (ImpliesAct a b) s = λ i. option_two ImpliesAct (action_again a s.0 i) (action_again b s.1 i)
action_again _ s = refl

pub step_again : (a : Action) → IsSpellableAction a → regular_meant (canon_action a) ≡ Some (Step a)
step_again (Names []) s = refl
step_again (Names (x ∷ names)) s = ap (λ n. Some (Step (Names n))) s.1
step_again (NotAct a) s = ap (option_map (λ a. Step (NotAct a))) (action_again a s)
step_again (AndAct a b) s = λ i. option_two (λ a b. Step (AndAct a b)) (action_again a s.0 i) (action_again b s.1 i)
step_again (OrAct a b) s = λ i. option_two (λ a b. Step (OrAct a b)) (action_again a s.0 i) (action_again b s.1 i)
step_again (ImpliesAct a b) s = λ i. option_two (λ a b. Step (ImpliesAct a b)) (action_again a s.0 i) (action_again b s.1 i)
step_again _ s = refl

pub regular_again : (r : Regular) → IsSpellableRegular r → regular_meant (canon_regular r) ≡ Some r
regular_again (Step a) s = step_again a s
regular_again (Then r q) s = λ i. option_two Then (regular_again r s.0 i) (regular_again q s.1 i)
regular_again (Either r q) s = λ i. option_two Either (regular_again r s.0 i) (regular_again q s.1 i)
regular_again (Star r) s = ap (option_map Star) (regular_again r s)
regular_again (Plus r) s = ap (option_map Plus) (regular_again r s)

pub formula_again : (f : Formula) → IsSpellable f → meant (canon_syntax f) ≡ Some f
formula_again (Not f) s = ap (option_map Not) (formula_again f s)
formula_again (And f g) s = λ i. option_two And (formula_again f s.0 i) (formula_again g s.1 i)
formula_again (Or f g) s = λ i. option_two Or (formula_again f s.0 i) (formula_again g s.1 i)
formula_again (Implies f g) s = λ i. option_two Implies (formula_again f s.0 i) (formula_again g s.1 i)
formula_again (Dia r f) s = λ i. option_two Dia (regular_again r s.0 i) (formula_again f s.1 i)
formula_again (Box r f) s = λ i. option_two Box (regular_again r s.0 i) (formula_again f s.1 i)
formula_again (Mu name f) s = ap (option_map (Mu name)) (formula_again f s.1)
formula_again (Nu name f) s = ap (option_map (Nu name)) (formula_again f s.1)
formula_again _ s = refl

-- Each `+` is decided.

-- the tokens of `(left sign right)` before more are decided where the parts are
infix_decided : (sign : Token) (ts us more : List Token) → is_decided (ts ++ (sign ∷ (us ++ (Close ∷ more)))) ≡ true
    → is_decided (((ts ++ sign ∷ us) ++ Close ∷ []) ++ more) ≡ true
infix_decided sign ts us more h = simp append_assoc h

names_decided : (names : List (List ℕ)) (ts : List Token) → is_decided ts ≡ true → is_decided (more_names names ++ ts) ≡ true
names_decided [] ts h = h
names_decided (x ∷ names) ts h = names_decided names ts h

action_decided : (a : Action) (ts : List Token) → is_decided ts ≡ true → is_decided (reg_tokens (canon_action a) ++ ts) ≡ true
action_decided (Names []) ts h = h
action_decided (Names (x ∷ names)) ts h = names_decided names ts h
action_decided (NotAct a) ts h = action_decided a ts h
action_decided (AndAct a b) ts h = infix_decided AndSign (reg_tokens (canon_action a)) _ ts (action_decided a _ (action_decided b _ h))
action_decided (OrAct a b) ts h = infix_decided OrSign (reg_tokens (canon_action a)) _ ts (action_decided a _ (action_decided b _ h))
action_decided (ImpliesAct a b) ts h = infix_decided ImpliesSign (reg_tokens (canon_action a)) _ ts (action_decided a _ (action_decided b _ h))
action_decided _ ts h = h

-- a regular formula begins with no sign that makes a `+` before it postfix
begins_operand : (r : Regular) (ts : List Token) → is_after_postfix (reg_tokens (canon_regular r) ++ ts) ≡ false
begins_operand (Step a) ts = begins_action a ts
  where
    begins_action : (a : Action) (ts : List Token) → is_after_postfix (reg_tokens (canon_action a) ++ ts) ≡ false
    begins_action (Names []) ts = refl
    begins_action (Names (x ∷ names)) ts = refl
    begins_action _ ts = refl
begins_operand (Then r s) ts = refl
begins_operand (Either r s) ts = refl
begins_operand (Star r) ts = ap is_after_postfix (append_assoc (reg_tokens (canon_regular r)) (StarSign ∷ []) ts) ∙ begins_operand r (StarSign ∷ ts)
begins_operand (Plus r) ts = ap is_after_postfix (append_assoc (reg_tokens (canon_regular r)) (PlusSign ∷ []) ts) ∙ begins_operand r (PlusSign ∷ ts)

regular_decided : (r : Regular) (ts : List Token) → is_decided ts ≡ true → is_after_postfix ts ≡ true → is_decided (reg_tokens (canon_regular r) ++ ts) ≡ true
regular_decided (Step a) ts h k = action_decided a ts h
regular_decided (Then r s) ts h k = infix_decided Dot (reg_tokens (canon_regular r)) _ ts (regular_decided r _ (regular_decided s _ h refl) refl)
regular_decided (Either r s) ts h k =
    infix_decided ChoiceSign (reg_tokens (canon_regular r)) _ ts
    (regular_decided r _ (and_from _ _ (ap not (begins_operand s (Close ∷ ts))) (regular_decided s _ h refl)) refl)
regular_decided (Star r) ts h k = ap is_decided (append_assoc (reg_tokens (canon_regular r)) (StarSign ∷ []) ts) ∙ regular_decided r (StarSign ∷ ts) h refl
regular_decided (Plus r) ts h k = ap is_decided (append_assoc (reg_tokens (canon_regular r)) (PlusSign ∷ []) ts)
    ∙ regular_decided r (PlusSign ∷ ts) (and_from _ _ k h) refl

formula_decided : (f : Formula) (ts : List Token) → is_decided ts ≡ true → is_decided (tokens (canon_syntax f) ++ ts) ≡ true
formula_decided (Not f) ts h = formula_decided f ts h
formula_decided (And f g) ts h = infix_decided AndSign (tokens (canon_syntax f)) _ ts (formula_decided f _ (formula_decided g _ h))
formula_decided (Or f g) ts h = infix_decided OrSign (tokens (canon_syntax f)) _ ts (formula_decided f _ (formula_decided g _ h))
formula_decided (Implies f g) ts h = infix_decided ImpliesSign (tokens (canon_syntax f)) _ ts (formula_decided f _ (formula_decided g _ h))
formula_decided (Dia r f) ts h =
    ap is_decided (append_assoc (reg_tokens (canon_regular r)) (Greater ∷ tokens (canon_syntax f)) ts)
    ∙ regular_decided r (Greater ∷ (tokens (canon_syntax f) ++ ts)) (formula_decided f ts h) refl
formula_decided (Box r f) ts h =
    ap is_decided (append_assoc (reg_tokens (canon_regular r)) (CloseBox ∷ tokens (canon_syntax f)) ts)
    ∙ regular_decided r (CloseBox ∷ (tokens (canon_syntax f) ++ ts)) (formula_decided f ts h) refl
formula_decided (Mu name f) ts h = ap is_decided (append_assoc (tokens (canon_syntax f)) (Close ∷ []) ts) ∙ formula_decided f (Close ∷ ts) h
formula_decided (Nu name f) ts h = ap is_decided (append_assoc (tokens (canon_syntax f)) (Close ∷ []) ts) ∙ formula_decided f (Close ∷ ts) h
formula_decided _ ts h = h

pub canon_is_written : (f : Formula) (s : IsSpellable f) → IsWritten (canon f) ((formula_written f s).pieces []) (canon_syntax f)
canon_is_written f s =
    let w = formula_written f s in
    let same = w.spelled [] ∙ append-nil (tokens (canon_syntax f)) in
    record {
      joined = sym (w.joined [] ∙ append-nil (canon f));
      cut = w.cut [] [] tt refl;
      decided = ap is_decided (w.spelled []) ∙ formula_decided f [] refl;
      spelled = same;
      grammatical = formula_fits f;
    }

pub canon_spelled : (f : Formula) → IsSpellable f → Spells (canon f) f
canon_spelled f s = record {
  pieces = (formula_written f s).pieces [];
  syntax = canon_syntax f;
  written = canon_is_written f s;
  stands_for = formula_again f s;
}
