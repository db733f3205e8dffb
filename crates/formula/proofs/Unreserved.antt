-- No formula has a reserved word.
use Rattle.std.specs.Prelude.{ℕ, ◌||◌, List, [], ◌∷◌, ◌++◌, IsFalse, refl}
use Rattle.std.specs.List.{list_any}
use Rattle.std.proofs.Common.{◌∙◌, ap}
use Rattle.std.proofs.lemmas.List.Folds.{list_any-append}
use Rattle.grammar.specs.Token.{Token, Close, AndSign, OrSign, ImpliesSign, StarSign, PlusSign, Dot, ChoiceSign, Greater, CloseBox, Segment, is_reserved}
use Rattle.grammar.specs.Syntax.{RegSyntax, Names', Parens', Not', And', Or', Implies', Star', Plus', Then', Either', more_names, reg_tokens, Syntax, Group'}
use Rattle.grammar.specs.Syntax.{Neg', Both', OneOf', If', Dia', Box', Mu', Nu', tokens}
use Rattle.formula.specs.Fault.{IsTokens}
use Rattle.formula.specs.Spells.{IsWritten}

any_append : (xs ys : List Token) → IsFalse (list_any is_reserved xs) → IsFalse (list_any is_reserved ys) → IsFalse (list_any is_reserved (xs ++ ys))
any_append xs ys h k = list_any-append is_reserved xs ys ∙ (λ i. h i || k i)

names_free : (names : List (List ℕ)) → IsFalse (list_any is_reserved (more_names names))
names_free [] = refl
names_free (name ∷ names) = names_free names

reg_free : (r : RegSyntax) → IsFalse (list_any is_reserved (reg_tokens r))
reg_free (Names' name names) = names_free names
reg_free (Parens' r) = any_append (reg_tokens r) (Close ∷ []) (reg_free r) refl
reg_free (Not' r) = reg_free r
reg_free (And' r s) = any_append (reg_tokens r) (AndSign ∷ reg_tokens s) (reg_free r) (reg_free s)
reg_free (Or' r s) = any_append (reg_tokens r) (OrSign ∷ reg_tokens s) (reg_free r) (reg_free s)
reg_free (Implies' r s) = any_append (reg_tokens r) (ImpliesSign ∷ reg_tokens s) (reg_free r) (reg_free s)
reg_free (Star' r) = any_append (reg_tokens r) (StarSign ∷ []) (reg_free r) refl
reg_free (Plus' r) = any_append (reg_tokens r) (PlusSign ∷ []) (reg_free r) refl
reg_free (Then' r s) = any_append (reg_tokens r) (Dot ∷ reg_tokens s) (reg_free r) (reg_free s)
reg_free (Either' r s) = any_append (reg_tokens r) (ChoiceSign ∷ reg_tokens s) (reg_free r) (reg_free s)
reg_free _ = refl

free : (s : Syntax) → IsFalse (list_any is_reserved (tokens s))
free (Group' f) = any_append (tokens f) (Close ∷ []) (free f) refl
free (Neg' f) = free f
free (Both' f g) = any_append (tokens f) (AndSign ∷ tokens g) (free f) (free g)
free (OneOf' f g) = any_append (tokens f) (OrSign ∷ tokens g) (free f) (free g)
free (If' f g) = any_append (tokens f) (ImpliesSign ∷ tokens g) (free f) (free g)
free (Dia' r f) = any_append (reg_tokens r) (Greater ∷ tokens f) (reg_free r) (free f)
free (Box' r f) = any_append (reg_tokens r) (CloseBox ∷ tokens f) (reg_free r) (free f)
free (Mu' name f) = free f
free (Nu' name f) = free f
free _ = refl

-- A text that is written as a formula is all tokens, none reserved.
pub written_tokens : (text : List ℕ) (pieces : List Segment) (s : Syntax) → IsWritten text pieces s → IsTokens text pieces
written_tokens text pieces s w = record { joined = w.joined; cut = w.cut; decided = w.decided; free = ap (list_any is_reserved) w.spelled ∙ free s }
