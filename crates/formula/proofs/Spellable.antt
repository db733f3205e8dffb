-- What a text spells is spellable, and as deep as its canonical text.
use Rattle.std.proofs.Common.{◌≡◌, ℕ, ◌+◌, ◌≤◌, true, List, [], ◌∷◌, ◌++◌, length, Option, Some, None, option_map, max, refl, sym, ap, ◌∙◌, subst, arith}
use Rattle.std.specs.Prelude.{nat_le, IfSome}
use Rattle.std.specs.List.{AllByRecursion}
use Rattle.std.proofs.lemmas.Bool.{leb-true, le-leb, and_parts, and_from}
use Rattle.systems.specs.Label.{multiset}
use Rattle.grammar.specs.declared.limits.TheConstants.{LONGEST_TEXT, DEEPEST, MOST_PARENS}
use Rattle.calculus.specs.Tree.{Action, Anything, Nothing, Names, Quoted, NotAct, AndAct, OrAct, ImpliesAct, Regular, Step, Then, Either, Star, Plus, Formula}
use Rattle.calculus.specs.Tree.{True, False, Var, Not, And, Or, Implies, Dia, Box, Mu, Nu}
use Rattle.calculus.specs.Canon.{canon}
use Rattle.grammar.specs.Token.{Token, Name, ImpliesSign, OrSign, AndSign, Greater, CloseBox, Close, Dot, ChoiceSign, PlusSign, StarSign, is_free_name}
use Rattle.grammar.specs.Token.{IsToken, Segment, Blank, Comment, Word, Cuts, tokens_of}
use Rattle.grammar.specs.Syntax.{RegSyntax, Anything', Nothing', Tau', Names', Quoted', Parens', Not', And', Or', Implies', Star', Plus', Then', Either'}
use Rattle.grammar.specs.Syntax.{reg_tokens, more_names, option_two, action_meant, regular_meant, reg_nesting, reg_parens, Syntax, True', False', Var'}
use Rattle.grammar.specs.Syntax.{Group', Neg', Both', OneOf', If', Dia', Box', Mu', Nu', tokens, meant, nesting, parens}
use Rattle.formula.specs.Spells.{Spells, SpellsWithin}
use Rattle.formula.proofs.Ascending.{multiset_again, multiset_all}
use Rattle.formula.proofs.Canonical.{IsSpellableAction, IsSpellableRegular, IsSpellable, canon_action, canon_regular, canon_syntax}
use Rattle.formula.proofs.CanonicalText.{formula_again, canon_is_written, canon_spelled}

-- What holds of each token of a text that is cut.

abbrev AreTokens : List Token → Type 0
AreTokens ts = AllByRecursion IsToken ts

cut_tokens : (ps : List Segment) (m : List ℕ) → Cuts ps m → AreTokens (tokens_of ps)
cut_tokens [] m c = tt
cut_tokens (Blank byte ∷ ps) m c = cut_tokens ps m c.2
cut_tokens (Comment bytes ∷ ps) m c = cut_tokens ps m c.2
cut_tokens (Word t ∷ ps) m c = (c.0, cut_tokens ps m c.2)

both_sides : (ts us : List Token) → AreTokens (ts ++ us) → AreTokens ts × AreTokens us
both_sides [] us all = (tt, all)
both_sides (t ∷ ts) us all = let r = both_sides ts us all.1 in ((all.0, r.0), r.1)

-- What an operator makes of what its operands mean.

of_one : {A B : Type 0} (f : A → B) (o : Option A) (P : A → Type 0) (Q : B → Type 0) → ((a : A) → P a → Q (f a)) → IfSome o P → IfSome (option_map f o) Q
of_one f None P Q g h = h
of_one f (Some a) P Q g h = g a h

of_two : {A B C : Type 0} (f : A → B → C) (o : Option A) (p : Option B) (P : A → Type 0) (Q : B → Type 0) (R : C → Type 0)
    → ((a : A) (b : B) → P a → Q b → R (f a b))
    → IfSome o P → IfSome p Q → IfSome (option_two f o p) R
of_two f None p P Q R g h k = tt
of_two f (Some a) None P Q R g h k = tt
of_two f (Some a) (Some b) P Q R g h k = g a b h k

names_free : (names : List (List ℕ)) → AreTokens (more_names names) → AllByRecursion (λ x. is_free_name x ≡ true) names
names_free [] all = tt
names_free (x ∷ names) all = (all.1.0, names_free names all.1.1)

names_spellable : (x : List ℕ) (names : List (List ℕ)) → AreTokens (Name x ∷ more_names names) → IsSpellableAction (Names (multiset (x ∷ names)))
names_spellable x names all = (multiset_all (λ x. is_free_name x ≡ true) (x ∷ names) (all.0, names_free names all.1), multiset_again (x ∷ names))

-- of a sign between operands
sides : (ts us : List Token) (t : Token) → AreTokens (ts ++ t ∷ us) → AreTokens ts × AreTokens us
sides ts us t all = let r = both_sides ts (t ∷ us) all in (r.0, r.1.1)

of_sign : {A B C : Type 0} (f : A → B → C) (o : Option A) (p : Option B) (P : A → Type 0) (Q : B → Type 0) (R : C → Type 0) (ts us : List Token) (t : Token)
    → ((a : A) (b : B) → P a → Q b → R (f a b))
    → (AreTokens ts → IfSome o P) → (AreTokens us → IfSome p Q) → AreTokens (ts ++ t ∷ us) → IfSome (option_two f o p) R
of_sign f o p P Q R ts us t g h k all = let x = sides ts us t all in of_two f o p P Q R g (h x.0) (k x.1)

action_spellable : (r : RegSyntax) → AreTokens (reg_tokens r) → IfSome (action_meant r) IsSpellableAction
action_spellable Anything' all = tt
action_spellable Nothing' all = tt
action_spellable Tau' all = (tt, refl)
action_spellable (Names' x names) all = names_spellable x names all
action_spellable (Quoted' bytes) all = all.0
action_spellable (Parens' r) all = action_spellable r (both_sides (reg_tokens r) (Close ∷ []) all.1).0
action_spellable (Not' r) all = of_one NotAct (action_meant r) IsSpellableAction IsSpellableAction (λ a h. h) (action_spellable r all.1)
action_spellable (And' r s) all = of_sign AndAct _ _ IsSpellableAction IsSpellableAction IsSpellableAction _ _ AndSign (λ a b h k. (h, k))
    (λ h. action_spellable r h) (λ h. action_spellable s h) all
action_spellable (Or' r s) all = of_sign OrAct _ _ IsSpellableAction IsSpellableAction IsSpellableAction _ _ OrSign (λ a b h k. (h, k))
    (λ h. action_spellable r h) (λ h. action_spellable s h) all
action_spellable (Implies' r s) all = of_sign ImpliesAct _ _ IsSpellableAction IsSpellableAction IsSpellableAction _ _ ImpliesSign (λ a b h k. (h, k))
    (λ h. action_spellable r h) (λ h. action_spellable s h) all
action_spellable (Star' r) all = tt
action_spellable (Plus' r) all = tt
action_spellable (Then' r s) all = tt
action_spellable (Either' r s) all = tt

regular_spellable : (r : RegSyntax) → AreTokens (reg_tokens r) → IfSome (regular_meant r) IsSpellableRegular
regular_spellable Anything' all = tt
regular_spellable Nothing' all = tt
regular_spellable Tau' all = (tt, refl)
regular_spellable (Names' x names) all = names_spellable x names all
regular_spellable (Quoted' bytes) all = all.0
regular_spellable (Parens' r) all = regular_spellable r (both_sides (reg_tokens r) (Close ∷ []) all.1).0
regular_spellable (Not' r) all = of_one (λ a. Step (NotAct a)) (action_meant r) IsSpellableAction IsSpellableRegular (λ a h. h) (action_spellable r all.1)
regular_spellable (And' r s) all = of_sign (λ a b. Step (AndAct a b)) _ _ IsSpellableAction IsSpellableAction IsSpellableRegular _ _ AndSign
    (λ a b h k. (h, k)) (λ h. action_spellable r h) (λ h. action_spellable s h) all
regular_spellable (Or' r s) all = of_sign (λ a b. Step (OrAct a b)) _ _ IsSpellableAction IsSpellableAction IsSpellableRegular _ _ OrSign (λ a b h k. (h, k))
    (λ h. action_spellable r h) (λ h. action_spellable s h) all
regular_spellable (Implies' r s) all = of_sign (λ a b. Step (ImpliesAct a b)) _ _ IsSpellableAction IsSpellableAction IsSpellableRegular _ _ ImpliesSign
    (λ a b h k. (h, k)) (λ h. action_spellable r h) (λ h. action_spellable s h) all
regular_spellable (Star' r) all = of_one Star (regular_meant r) IsSpellableRegular IsSpellableRegular (λ r h. h)
    (regular_spellable r (both_sides (reg_tokens r) (StarSign ∷ []) all).0)
regular_spellable (Plus' r) all = of_one Plus (regular_meant r) IsSpellableRegular IsSpellableRegular (λ r h. h)
    (regular_spellable r (both_sides (reg_tokens r) (PlusSign ∷ []) all).0)
regular_spellable (Then' r s) all = of_sign Then _ _ IsSpellableRegular IsSpellableRegular IsSpellableRegular _ _ Dot (λ a b h k. (h, k))
    (λ h. regular_spellable r h) (λ h. regular_spellable s h) all
regular_spellable (Either' r s) all = of_sign Either _ _ IsSpellableRegular IsSpellableRegular IsSpellableRegular _ _ ChoiceSign (λ a b h k. (h, k))
    (λ h. regular_spellable r h) (λ h. regular_spellable s h) all

formula_spellable : (s : Syntax) → AreTokens (tokens s) → IfSome (meant s) IsSpellable
formula_spellable True' all = tt
formula_spellable False' all = tt
formula_spellable (Var' name) all = all.0
formula_spellable (Group' f) all = formula_spellable f (both_sides (tokens f) (Close ∷ []) all.1).0
formula_spellable (Neg' f) all = of_one Not (meant f) IsSpellable IsSpellable (λ f h. h) (formula_spellable f all.1)
formula_spellable (Both' f g) all = of_sign And _ _ IsSpellable IsSpellable IsSpellable _ _ AndSign (λ f g h k. (h, k)) (λ h. formula_spellable f h)
    (λ h. formula_spellable g h) all
formula_spellable (OneOf' f g) all = of_sign Or _ _ IsSpellable IsSpellable IsSpellable _ _ OrSign (λ f g h k. (h, k)) (λ h. formula_spellable f h)
    (λ h. formula_spellable g h) all
formula_spellable (If' f g) all = of_sign Implies _ _ IsSpellable IsSpellable IsSpellable _ _ ImpliesSign (λ f g h k. (h, k)) (λ h. formula_spellable f h)
    (λ h. formula_spellable g h) all
formula_spellable (Dia' r f) all = of_sign Dia _ _ IsSpellableRegular IsSpellable IsSpellable _ _ Greater (λ r f h k. (h, k)) (λ h. regular_spellable r h)
    (λ h. formula_spellable f h) all.1
formula_spellable (Box' r f) all = of_sign Box _ _ IsSpellableRegular IsSpellable IsSpellable _ _ CloseBox (λ r f h k. (h, k)) (λ h. regular_spellable r h)
    (λ h. formula_spellable f h) all.1
formula_spellable (Mu' name f) all = of_one (Mu name) (meant f) IsSpellable IsSpellable (λ f h. (all.1.0, h)) (formula_spellable f all.1.1.1)
formula_spellable (Nu' name f) all = of_one (Nu name) (meant f) IsSpellable IsSpellable (λ f h. (all.1.0, h)) (formula_spellable f all.1.1.1)

pub tree_spellable : (s : Syntax) (f : Formula) → AreTokens (tokens s) → meant s ≡ Some f → IsSpellable f
tree_spellable s f all e = subst (λ o. IfSome o IsSpellable) e (formula_spellable s all)

-- How deep the operators of a formula stand in one another.

abbrev action_depth : Action → ℕ
action_depth (NotAct a) = 1 + action_depth a
action_depth (AndAct a b) = 1 + max (action_depth a) (action_depth b)
action_depth (OrAct a b) = 1 + max (action_depth a) (action_depth b)
action_depth (ImpliesAct a b) = 1 + max (action_depth a) (action_depth b)
action_depth _ = 0

abbrev regular_depth : Regular → ℕ
regular_depth (Step a) = action_depth a
regular_depth (Then r s) = 1 + max (regular_depth r) (regular_depth s)
regular_depth (Either r s) = 1 + max (regular_depth r) (regular_depth s)
regular_depth (Star r) = 1 + regular_depth r
regular_depth (Plus r) = 1 + regular_depth r

abbrev formula_depth : Formula → ℕ
formula_depth (Not f) = 1 + formula_depth f
formula_depth (And f g) = 1 + max (formula_depth f) (formula_depth g)
formula_depth (Or f g) = 1 + max (formula_depth f) (formula_depth g)
formula_depth (Implies f g) = 1 + max (formula_depth f) (formula_depth g)
formula_depth (Dia r f) = 1 + max (regular_depth r) (formula_depth f)
formula_depth (Box r f) = 1 + max (regular_depth r) (formula_depth f)
formula_depth (Mu name f) = 1 + formula_depth f
formula_depth (Nu name f) = 1 + formula_depth f
formula_depth _ = 0

abbrev IsActionDepth : ℕ → Action → Type 0
IsActionDepth n a = n ≡ action_depth a

abbrev IsRegularDepth : ℕ → Regular → Type 0
IsRegularDepth n r = n ≡ regular_depth r

abbrev IsDepth : ℕ → Formula → Type 0
IsDepth n f = n ≡ formula_depth f

-- an operator stands above its operand, and one with two above the deeper of them
nests_one : {A B : Type 0} (f : A → B) (o : Option A) (d : A → ℕ) (e : B → ℕ) (m : ℕ) → ((a : A) → 1 + d a ≡ e (f a)) → IfSome o (λ a. m ≡ d a)
    → IfSome (option_map f o) (λ b. 1 + m ≡ e b)
nests_one f None d e m above h = tt
nests_one f (Some a) d e m above h = ap (λ k. 1 + k) h ∙ above a

nests_two : {A B C : Type 0} (f : A → B → C) (o : Option A) (p : Option B) (d : A → ℕ) (e : B → ℕ) (c : C → ℕ) (m n : ℕ)
    → ((a : A) (b : B) → 1 + max (d a) (e b) ≡ c (f a b))
    → IfSome o (λ a. m ≡ d a) → IfSome p (λ b. n ≡ e b) → IfSome (option_two f o p) (λ x. 1 + max m n ≡ c x)
nests_two f None p d e c m n above h k = tt
nests_two f (Some a) None d e c m n above h k = tt
nests_two f (Some a) (Some b) d e c m n above h k = (λ i. 1 + max (h i) (k i)) ∙ above a b

action_nests : (r : RegSyntax) → IfSome (action_meant r) (IsActionDepth (reg_nesting r))
action_nests Anything' = refl
action_nests Nothing' = refl
action_nests Tau' = refl
action_nests (Names' x names) = refl
action_nests (Quoted' bytes) = refl
action_nests (Parens' r) = action_nests r
action_nests (Not' r) = nests_one NotAct (action_meant r) action_depth action_depth (reg_nesting r) (λ a. refl) (action_nests r)
action_nests (And' r s) = nests_two AndAct (action_meant r) (action_meant s) action_depth action_depth action_depth (reg_nesting r) (reg_nesting s)
    (λ a b. refl) (action_nests r) (action_nests s)
action_nests (Or' r s) = nests_two OrAct (action_meant r) (action_meant s) action_depth action_depth action_depth (reg_nesting r) (reg_nesting s)
    (λ a b. refl) (action_nests r) (action_nests s)
action_nests (Implies' r s) = nests_two ImpliesAct (action_meant r) (action_meant s) action_depth action_depth action_depth (reg_nesting r) (reg_nesting s)
    (λ a b. refl) (action_nests r) (action_nests s)
action_nests (Star' r) = tt
action_nests (Plus' r) = tt
action_nests (Then' r s) = tt
action_nests (Either' r s) = tt

regular_nests : (r : RegSyntax) → IfSome (regular_meant r) (IsRegularDepth (reg_nesting r))
regular_nests Anything' = refl
regular_nests Nothing' = refl
regular_nests Tau' = refl
regular_nests (Names' x names) = refl
regular_nests (Quoted' bytes) = refl
regular_nests (Parens' r) = regular_nests r
regular_nests (Not' r) = nests_one (λ a. Step (NotAct a)) (action_meant r) action_depth regular_depth (reg_nesting r) (λ a. refl) (action_nests r)
regular_nests (And' r s) = nests_two (λ a b. Step (AndAct a b)) (action_meant r) (action_meant s) action_depth action_depth regular_depth (reg_nesting r)
    (reg_nesting s) (λ a b. refl) (action_nests r) (action_nests s)
regular_nests (Or' r s) = nests_two (λ a b. Step (OrAct a b)) (action_meant r) (action_meant s) action_depth action_depth regular_depth (reg_nesting r)
    (reg_nesting s) (λ a b. refl) (action_nests r) (action_nests s)
regular_nests (Implies' r s) = nests_two (λ a b. Step (ImpliesAct a b)) (action_meant r) (action_meant s) action_depth action_depth regular_depth
    (reg_nesting r) (reg_nesting s) (λ a b. refl) (action_nests r) (action_nests s)
regular_nests (Star' r) = nests_one Star (regular_meant r) regular_depth regular_depth (reg_nesting r) (λ a. refl) (regular_nests r)
regular_nests (Plus' r) = nests_one Plus (regular_meant r) regular_depth regular_depth (reg_nesting r) (λ a. refl) (regular_nests r)
regular_nests (Then' r s) = nests_two Then (regular_meant r) (regular_meant s) regular_depth regular_depth regular_depth (reg_nesting r) (reg_nesting s)
    (λ a b. refl) (regular_nests r) (regular_nests s)
regular_nests (Either' r s) = nests_two Either (regular_meant r) (regular_meant s) regular_depth regular_depth regular_depth (reg_nesting r) (reg_nesting s)
    (λ a b. refl) (regular_nests r) (regular_nests s)

formula_nests : (s : Syntax) → IfSome (meant s) (IsDepth (nesting s))
formula_nests True' = refl
formula_nests False' = refl
formula_nests (Var' name) = refl
formula_nests (Group' f) = formula_nests f
formula_nests (Neg' f) = nests_one Not (meant f) formula_depth formula_depth (nesting f) (λ a. refl) (formula_nests f)
formula_nests (Both' f g) = nests_two And (meant f) (meant g) formula_depth formula_depth formula_depth (nesting f) (nesting g) (λ a b. refl)
    (formula_nests f) (formula_nests g)
formula_nests (OneOf' f g) = nests_two Or (meant f) (meant g) formula_depth formula_depth formula_depth (nesting f) (nesting g) (λ a b. refl)
    (formula_nests f) (formula_nests g)
formula_nests (If' f g) = nests_two Implies (meant f) (meant g) formula_depth formula_depth formula_depth (nesting f) (nesting g) (λ a b. refl)
    (formula_nests f) (formula_nests g)
formula_nests (Dia' r f) = nests_two Dia (regular_meant r) (meant f) regular_depth formula_depth formula_depth (reg_nesting r) (nesting f) (λ a b. refl)
    (regular_nests r) (formula_nests f)
formula_nests (Box' r f) = nests_two Box (regular_meant r) (meant f) regular_depth formula_depth formula_depth (reg_nesting r) (nesting f) (λ a b. refl)
    (regular_nests r) (formula_nests f)
formula_nests (Mu' name f) = nests_one (Mu name) (meant f) formula_depth formula_depth (nesting f) (λ a. refl) (formula_nests f)
formula_nests (Nu' name f) = nests_one (Nu name) (meant f) formula_depth formula_depth (nesting f) (λ a. refl) (formula_nests f)

-- Trees that mean one formula nest alike, whatever their parentheses.
pub same_nesting : (s t : Syntax) (f : Formula) → meant s ≡ Some f → meant t ≡ Some f → nesting s ≡ nesting t
same_nesting s t f a b = subst (λ o. IfSome o (IsDepth (nesting s))) a (formula_nests s) ∙ sym (subst (λ o. IfSome o (IsDepth (nesting t))) b (formula_nests t))

-- The canonical tree opens no more parentheses than its operators nest.

action_parens : (a : Action) → reg_parens (canon_action a) ≤ reg_nesting (canon_action a)
action_parens Anything = omega arith
action_parens Nothing = omega arith
action_parens (Names []) = omega arith
action_parens (Names (x ∷ names)) = omega arith
action_parens (Quoted bytes) = omega arith
action_parens (NotAct a) = omega (arith, action_parens a)
action_parens (AndAct a b) = omega (arith, action_parens a, action_parens b)
action_parens (OrAct a b) = omega (arith, action_parens a, action_parens b)
action_parens (ImpliesAct a b) = omega (arith, action_parens a, action_parens b)

regular_parens : (r : Regular) → reg_parens (canon_regular r) ≤ reg_nesting (canon_regular r)
regular_parens (Step a) = action_parens a
regular_parens (Then r s) = omega (arith, regular_parens r, regular_parens s)
regular_parens (Either r s) = omega (arith, regular_parens r, regular_parens s)
regular_parens (Star r) = omega (arith, regular_parens r)
regular_parens (Plus r) = omega (arith, regular_parens r)

formula_parens : (f : Formula) → parens (canon_syntax f) ≤ nesting (canon_syntax f)
formula_parens True = omega arith
formula_parens False = omega arith
formula_parens (Var name) = omega arith
formula_parens (Not f) = omega (arith, formula_parens f)
formula_parens (And f g) = omega (arith, formula_parens f, formula_parens g)
formula_parens (Or f g) = omega (arith, formula_parens f, formula_parens g)
formula_parens (Implies f g) = omega (arith, formula_parens f, formula_parens g)
formula_parens (Dia r f) = omega (arith, regular_parens r, formula_parens f)
formula_parens (Box r f) = omega (arith, regular_parens r, formula_parens f)
formula_parens (Mu name f) = omega (arith, formula_parens f)
formula_parens (Nu name f) = omega (arith, formula_parens f)

-- what a text spells is spellable
pub spelled_spellable : (text : List ℕ) (f : Formula) → Spells text f → IsSpellable f
spelled_spellable text f a =
    tree_spellable a.syntax f (subst AreTokens a.written.spelled (cut_tokens a.pieces [] a.written.cut)) a.stands_for

pub canon_spells : (text : List ℕ) (f : Formula) → Spells text f → Spells (canon f) f
canon_spells text f a = canon_spelled f (spelled_spellable text f a)

pub canon_within : (text : List ℕ) (f : Formula) → SpellsWithin text f → length (canon f) ≤ LONGEST_TEXT → SpellsWithin (canon f) f
canon_within text f a short =
    let s = spelled_spellable text f (record { pieces = a.pieces; syntax = a.syntax; written = a.written; stands_for = a.stands_for }) in
    let limits = and_parts (nat_le (nesting a.syntax) DEEPEST) (nat_le (parens a.syntax) MOST_PARENS) a.within in
    let nest : nesting (canon_syntax f) ≤ DEEPEST = omega (
      arith,
      same_nesting a.syntax (canon_syntax f) f a.stands_for (formula_again f s),
      leb-true (nesting a.syntax) DEEPEST limits.0,
    ) in
    record {
      pieces = _;
      syntax = canon_syntax f;
      written = canon_is_written f s;
      stands_for = formula_again f s;
      within = and_from _ _ (le-leb (nesting (canon_syntax f)) DEEPEST nest) (le-leb (parens (canon_syntax f)) MOST_PARENS (omega (arith, formula_parens f)));
      short = short;
    }
