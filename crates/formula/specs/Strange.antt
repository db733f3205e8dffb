-- The words of a formula that no label of a system has.
use Rattle.std.specs.Prelude.{ℕ, Bool, false, not, List, [], ◌∷◌, ◌++◌, filter, map, take, Option, Some, None}
use Rattle.std.specs.List.{list_any}
use Rattle.std.specs.Str.{bytes_eq}
use Rattle.systems.specs.Label.{multi_action_of}
use Rattle.systems.specs.Numbered.{Numbered}
use Rattle.calculus.specs.Tree.{Action, Anything, Nothing, Names, Quoted, NotAct, AndAct, OrAct, ImpliesAct, Regular, Step, Then, Either, Star, Plus, Formula}
use Rattle.calculus.specs.Tree.{True, False, Var, Not, And, Or, Implies, Dia, Box, Mu, Nu}
use Rattle.formula.specs.declared.strange.Word.{Word}
use Rattle.formula.specs.declared.strange.Word.TheVariants as word
use Rattle.formula.specs.declared.strange.TheConstants.{MOST_NOTES}

-- a name of a multi-action, or a quoted atom
pub data NameOrAtom : Type 0 where
  Name : (bytes : List ℕ) → NameOrAtom
  Atom : (bytes : List ℕ) → NameOrAtom

abbrev pub name_or_atom : Word → NameOrAtom
name_or_atom (word.Name bytes) = Name bytes.now
name_or_atom (word.Atom bytes) = Atom bytes.now

-- those of a formula, in order
abbrev pub action_terms : Action → List NameOrAtom
action_terms Anything = []
action_terms Nothing = []
action_terms (Names names) = map Name names
action_terms (Quoted bytes) = Atom bytes ∷ []
action_terms (NotAct a) = action_terms a
action_terms (AndAct a b) = action_terms a ++ action_terms b
action_terms (OrAct a b) = action_terms a ++ action_terms b
action_terms (ImpliesAct a b) = action_terms a ++ action_terms b

abbrev pub regular_terms : Regular → List NameOrAtom
regular_terms (Step a) = action_terms a
regular_terms (Then r s) = regular_terms r ++ regular_terms s
regular_terms (Either r s) = regular_terms r ++ regular_terms s
regular_terms (Star r) = regular_terms r
regular_terms (Plus r) = regular_terms r

abbrev pub formula_terms : Formula → List NameOrAtom
formula_terms True = []
formula_terms False = []
formula_terms (Var name) = []
formula_terms (Not f) = formula_terms f
formula_terms (And f g) = formula_terms f ++ formula_terms g
formula_terms (Or f g) = formula_terms f ++ formula_terms g
formula_terms (Implies f g) = formula_terms f ++ formula_terms g
formula_terms (Dia r f) = regular_terms r ++ formula_terms f
formula_terms (Box r f) = regular_terms r ++ formula_terms f
formula_terms (Mu name f) = formula_terms f
formula_terms (Nu name f) = formula_terms f

-- among the names that a label is read as
abbrev pub is_among : List ℕ → Option (List (List ℕ)) → Bool
is_among bytes None = false
is_among bytes (Some names) = list_any (λ name. bytes_eq name bytes) names

-- the label has the name, or it is the quoted one
abbrev pub has_term : NameOrAtom → List ℕ → Bool
has_term (Name bytes) label = is_among bytes (multi_action_of label)
has_term (Atom bytes) label = bytes_eq label bytes

-- no label has it
abbrev pub is_strange : List (List ℕ) → NameOrAtom → Bool
is_strange labels t = not (list_any (has_term t) labels)

abbrev pub same_term : NameOrAtom → NameOrAtom → Bool
same_term (Name a) (Name b) = bytes_eq a b
same_term (Atom a) (Atom b) = bytes_eq a b
same_term _ _ = false

-- each once, where it stands first
abbrev pub distinct : List NameOrAtom → List NameOrAtom
distinct [] = []
distinct (t ∷ ts) = t ∷ filter (λ other. not (same_term other t)) (distinct ts)

-- the first ten of a formula's terms, each once, that no label has
abbrev pub strange_terms : Numbered → Formula → List NameOrAtom
strange_terms l f = take MOST_NOTES (distinct (filter (is_strange l.labels) (formula_terms f)))
