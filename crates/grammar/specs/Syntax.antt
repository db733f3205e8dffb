-- The grammar of formulas, by syntax trees that keep parentheses.
use Rattle.std.specs.Prelude.{ℕ, ◌+◌, max, Bool, true, false, not, ◌&&◌, List, [], ◌∷◌, ◌++◌, nat_le, Option, Some, None, option_map}
use Rattle.systems.specs.Label.{multiset}
use Rattle.grammar.specs.declared.limits.TheConstants.{DEEPEST, MOST_PARENS}
use Rattle.calculus.specs.Tree.{Action, Anything, Nothing, Names, Quoted, NotAct, AndAct, OrAct, ImpliesAct, Regular, Step, Then, Either, Star, Plus, Formula}
use Rattle.calculus.specs.Tree.{True, False, Var, Not, And, Or, Implies, Dia, Box, Mu, Nu}
use Rattle.grammar.specs.Token.{Token, Name, Atom, TrueWord, FalseWord, MuWord, NuWord, TauWord, ImpliesSign, OrSign, AndSign, Bar, NotSign, Less, Greater}
use Rattle.grammar.specs.Token.{OpenBox, CloseBox, Open, Close, Dot, ChoiceSign, PlusSign, StarSign}

-- regular and action formulas as they are written
pub data RegSyntax : Type 0 where
  Anything' : RegSyntax
  Nothing' : RegSyntax
  Tau' : RegSyntax
  Names' : (first : List ℕ) → (others : List (List ℕ)) → RegSyntax
  Quoted' : (bytes : List ℕ) → RegSyntax
  Parens' : RegSyntax → RegSyntax
  Not' : RegSyntax → RegSyntax
  And' : RegSyntax → RegSyntax → RegSyntax
  Or' : RegSyntax → RegSyntax → RegSyntax
  Implies' : RegSyntax → RegSyntax → RegSyntax
  Star' : RegSyntax → RegSyntax
  Plus' : RegSyntax → RegSyntax
  Then' : RegSyntax → RegSyntax → RegSyntax
  Either' : RegSyntax → RegSyntax → RegSyntax

-- Which form: 0 atom, 1 negation, 2 conjunction, 3 disjunction, 4 implication, 5 postfixed, 6 sequence, 7 regular. Each is the next one too.
abbrev pub reg_form : RegSyntax → ℕ
reg_form (Not' r) = 1
reg_form (And' r s) = 2
reg_form (Or' r s) = 3
reg_form (Implies' r s) = 4
reg_form (Star' r) = 5
reg_form (Plus' r) = 5
reg_form (Then' r s) = 6
reg_form (Either' r s) = 7
reg_form _ = 0

-- each operand has a form that may stand there
abbrev pub reg_fits : RegSyntax → Bool
reg_fits Anything' = true
reg_fits Nothing' = true
reg_fits Tau' = true
reg_fits (Names' name names) = true
reg_fits (Quoted' bytes) = true
reg_fits (Parens' r) = reg_fits r
reg_fits (Not' r) = nat_le (reg_form r) 1 && reg_fits r
reg_fits (And' r s) = nat_le (reg_form r) 1 && nat_le (reg_form s) 2 && reg_fits r && reg_fits s
reg_fits (Or' r s) = nat_le (reg_form r) 2 && nat_le (reg_form s) 3 && reg_fits r && reg_fits s
reg_fits (Implies' r s) = nat_le (reg_form r) 3 && nat_le (reg_form s) 4 && reg_fits r && reg_fits s
reg_fits (Star' r) = nat_le (reg_form r) 5 && reg_fits r
reg_fits (Plus' r) = nat_le (reg_form r) 5 && reg_fits r
reg_fits (Then' r s) = nat_le (reg_form r) 5 && nat_le (reg_form s) 6 && reg_fits r && reg_fits s
reg_fits (Either' r s) = nat_le (reg_form r) 6 && nat_le (reg_form s) 7 && reg_fits r && reg_fits s

abbrev pub more_names : List (List ℕ) → List Token
more_names [] = []
more_names (name ∷ names) = Bar ∷ Name name ∷ more_names names

abbrev pub reg_tokens : RegSyntax → List Token
reg_tokens Anything' = TrueWord ∷ []
reg_tokens Nothing' = FalseWord ∷ []
reg_tokens Tau' = TauWord ∷ []
reg_tokens (Names' name names) = Name name ∷ more_names names
reg_tokens (Quoted' bytes) = Atom bytes ∷ []
reg_tokens (Parens' r) = Open ∷ (reg_tokens r ++ Close ∷ [])
reg_tokens (Not' r) = NotSign ∷ reg_tokens r
reg_tokens (And' r s) = reg_tokens r ++ AndSign ∷ reg_tokens s
reg_tokens (Or' r s) = reg_tokens r ++ OrSign ∷ reg_tokens s
reg_tokens (Implies' r s) = reg_tokens r ++ ImpliesSign ∷ reg_tokens s
reg_tokens (Star' r) = reg_tokens r ++ StarSign ∷ []
reg_tokens (Plus' r) = reg_tokens r ++ PlusSign ∷ []
reg_tokens (Then' r s) = reg_tokens r ++ Dot ∷ reg_tokens s
reg_tokens (Either' r s) = reg_tokens r ++ ChoiceSign ∷ reg_tokens s

abbrev pub option_two : {A B C : Type 0} → (A → B → C) → Option A → Option B → Option C
option_two f (Some a) (Some b) = Some (f a b)
option_two f _ _ = None

-- the action formula that is written, if it is one
abbrev pub action_meant : RegSyntax → Option Action
action_meant Anything' = Some Anything
action_meant Nothing' = Some Nothing
action_meant Tau' = Some (Names [])
action_meant (Names' name names) = Some (Names (multiset (name ∷ names)))
action_meant (Quoted' bytes) = Some (Quoted bytes)
action_meant (Parens' r) = action_meant r
action_meant (Not' r) = option_map NotAct (action_meant r)
action_meant (And' r s) = option_two AndAct (action_meant r) (action_meant s)
action_meant (Or' r s) = option_two OrAct (action_meant r) (action_meant s)
action_meant (Implies' r s) = option_two ImpliesAct (action_meant r) (action_meant s)
action_meant _ = None

-- the regular formula that is written; none where an operand of `!`, `&&`, `||` or `=>` is no action formula
abbrev pub regular_meant : RegSyntax → Option Regular
regular_meant (Parens' r) = regular_meant r
regular_meant (Star' r) = option_map Star (regular_meant r)
regular_meant (Plus' r) = option_map Plus (regular_meant r)
regular_meant (Then' r s) = option_two Then (regular_meant r) (regular_meant s)
regular_meant (Either' r s) = option_two Either (regular_meant r) (regular_meant s)
regular_meant Anything' = Some (Step Anything)
regular_meant Nothing' = Some (Step Nothing)
regular_meant Tau' = Some (Step (Names []))
regular_meant (Names' name names) = Some (Step (Names (multiset (name ∷ names))))
regular_meant (Quoted' bytes) = Some (Step (Quoted bytes))
regular_meant (Not' r) = option_map (λ a. Step (NotAct a)) (action_meant r)
regular_meant (And' r s) = option_two (λ a b. Step (AndAct a b)) (action_meant r) (action_meant s)
regular_meant (Or' r s) = option_two (λ a b. Step (OrAct a b)) (action_meant r) (action_meant s)
regular_meant (Implies' r s) = option_two (λ a b. Step (ImpliesAct a b)) (action_meant r) (action_meant s)

-- Here a `!`, `&&`, `||` or `=>` counts as an action formula, whatever its operands are.
abbrev pub counts_as_action : RegSyntax → Bool
counts_as_action (Parens' r) = counts_as_action r
counts_as_action (Star' r) = false
counts_as_action (Plus' r) = false
counts_as_action (Then' r s) = false
counts_as_action (Either' r s) = false
counts_as_action _ = true

-- how deep operators stand in one another; parentheses add nothing
abbrev pub reg_nesting : RegSyntax → ℕ
reg_nesting (Parens' r) = reg_nesting r
reg_nesting (Not' r) = 1 + reg_nesting r
reg_nesting (And' r s) = 1 + max (reg_nesting r) (reg_nesting s)
reg_nesting (Or' r s) = 1 + max (reg_nesting r) (reg_nesting s)
reg_nesting (Implies' r s) = 1 + max (reg_nesting r) (reg_nesting s)
reg_nesting (Star' r) = 1 + reg_nesting r
reg_nesting (Plus' r) = 1 + reg_nesting r
reg_nesting (Then' r s) = 1 + max (reg_nesting r) (reg_nesting s)
reg_nesting (Either' r s) = 1 + max (reg_nesting r) (reg_nesting s)
reg_nesting _ = 0

-- how many parentheses are open at once
abbrev pub reg_parens : RegSyntax → ℕ
reg_parens (Parens' r) = 1 + reg_parens r
reg_parens (Not' r) = reg_parens r
reg_parens (And' r s) = max (reg_parens r) (reg_parens s)
reg_parens (Or' r s) = max (reg_parens r) (reg_parens s)
reg_parens (Implies' r s) = max (reg_parens r) (reg_parens s)
reg_parens (Star' r) = reg_parens r
reg_parens (Plus' r) = reg_parens r
reg_parens (Then' r s) = max (reg_parens r) (reg_parens s)
reg_parens (Either' r s) = max (reg_parens r) (reg_parens s)
reg_parens _ = 0

-- state formulas as they are written
pub data Syntax : Type 0 where
  True' : Syntax
  False' : Syntax
  Var' : (name : List ℕ) → Syntax
  Group' : Syntax → Syntax
  Neg' : Syntax → Syntax
  Both' : Syntax → Syntax → Syntax
  OneOf' : Syntax → Syntax → Syntax
  If' : Syntax → Syntax → Syntax
  Dia' : RegSyntax → Syntax → Syntax
  Box' : RegSyntax → Syntax → Syntax
  Mu' : (name : List ℕ) → Syntax → Syntax
  Nu' : (name : List ℕ) → Syntax → Syntax

-- which form: 0 unary, 1 and, 2 or, 3 formula; each is the next one too
abbrev pub form : Syntax → ℕ
form (Both' f g) = 1
form (OneOf' f g) = 2
form (If' f g) = 3
form _ = 0

-- A binder's formula reaches as far right as possible: so no left operand ends in one.
abbrev pub ends_in_binder : Syntax → Bool
ends_in_binder (Mu' name f) = true
ends_in_binder (Nu' name f) = true
ends_in_binder (Neg' f) = ends_in_binder f
ends_in_binder (Both' f g) = ends_in_binder g
ends_in_binder (OneOf' f g) = ends_in_binder g
ends_in_binder (If' f g) = ends_in_binder g
ends_in_binder (Dia' r f) = ends_in_binder f
ends_in_binder (Box' r f) = ends_in_binder f
ends_in_binder _ = false

abbrev pub left_fits : ℕ → Syntax → Bool
left_fits n f = nat_le (form f) n && not (ends_in_binder f)

abbrev pub fits : Syntax → Bool
fits True' = true
fits False' = true
fits (Var' name) = true
fits (Group' f) = fits f
fits (Neg' f) = nat_le (form f) 0 && fits f
fits (Both' f g) = left_fits 0 f && nat_le (form g) 1 && fits f && fits g
fits (OneOf' f g) = left_fits 1 f && nat_le (form g) 2 && fits f && fits g
fits (If' f g) = left_fits 2 f && nat_le (form g) 3 && fits f && fits g
fits (Dia' r f) = nat_le (form f) 0 && reg_fits r && fits f
fits (Box' r f) = nat_le (form f) 0 && reg_fits r && fits f
fits (Mu' name f) = fits f
fits (Nu' name f) = fits f

abbrev pub tokens : Syntax → List Token
tokens True' = TrueWord ∷ []
tokens False' = FalseWord ∷ []
tokens (Var' name) = Name name ∷ []
tokens (Group' f) = Open ∷ (tokens f ++ Close ∷ [])
tokens (Neg' f) = NotSign ∷ tokens f
tokens (Both' f g) = tokens f ++ AndSign ∷ tokens g
tokens (OneOf' f g) = tokens f ++ OrSign ∷ tokens g
tokens (If' f g) = tokens f ++ ImpliesSign ∷ tokens g
tokens (Dia' r f) = Less ∷ (reg_tokens r ++ Greater ∷ tokens f)
tokens (Box' r f) = OpenBox ∷ (reg_tokens r ++ CloseBox ∷ tokens f)
tokens (Mu' name f) = MuWord ∷ Name name ∷ Dot ∷ tokens f
tokens (Nu' name f) = NuWord ∷ Name name ∷ Dot ∷ tokens f

-- the formula that is written; none where an operand of `!`, `&&`, `||` or `=>` inside a modality is no action formula
abbrev pub meant : Syntax → Option Formula
meant True' = Some True
meant False' = Some False
meant (Var' name) = Some (Var name)
meant (Group' f) = meant f
meant (Neg' f) = option_map Not (meant f)
meant (Both' f g) = option_two And (meant f) (meant g)
meant (OneOf' f g) = option_two Or (meant f) (meant g)
meant (If' f g) = option_two Implies (meant f) (meant g)
meant (Dia' r f) = option_two Dia (regular_meant r) (meant f)
meant (Box' r f) = option_two Box (regular_meant r) (meant f)
meant (Mu' name f) = option_map (Mu name) (meant f)
meant (Nu' name f) = option_map (Nu name) (meant f)

abbrev pub nesting : Syntax → ℕ
nesting (Group' f) = nesting f
nesting (Neg' f) = 1 + nesting f
nesting (Both' f g) = 1 + max (nesting f) (nesting g)
nesting (OneOf' f g) = 1 + max (nesting f) (nesting g)
nesting (If' f g) = 1 + max (nesting f) (nesting g)
nesting (Dia' r f) = 1 + max (reg_nesting r) (nesting f)
nesting (Box' r f) = 1 + max (reg_nesting r) (nesting f)
nesting (Mu' name f) = 1 + nesting f
nesting (Nu' name f) = 1 + nesting f
nesting _ = 0

abbrev pub parens : Syntax → ℕ
parens (Group' f) = 1 + parens f
parens (Neg' f) = parens f
parens (Both' f g) = max (parens f) (parens g)
parens (OneOf' f g) = max (parens f) (parens g)
parens (If' f g) = max (parens f) (parens g)
parens (Dia' r f) = max (reg_parens r) (parens f)
parens (Box' r f) = max (reg_parens r) (parens f)
parens (Mu' name f) = parens f
parens (Nu' name f) = parens f
parens _ = 0

abbrev pub is_within_limits : Syntax → Bool
is_within_limits f = nat_le (nesting f) DEEPEST && nat_le (parens f) MOST_PARENS
