-- The fault that decides, of a text that spells no admitted formula within the limits, and where it stands.
use Rattle.std.specs.Prelude.{◌≡◌, ◌≢◌, ◌⊎◌, ℕ, ◌+◌, ◌<◌, ◌≤◌, true, List, [], ◌∷◌, ◌++◌, length, if◌then◌else◌, IsTrue, IsFalse, Some, slice_get}
use Rattle.std.specs.List.{list_any}
use Rattle.std.specs.Str.{bytes_eq}
use Rattle.grammar.specs.declared.limits.TheConstants.{LONGEST_TEXT}
use Rattle.grammar.specs.Token.{Token, Reserved, Segment, Word, IsPiece, written_piece, piece_ends, Cuts, text_of, tokens_of, offsets_from, is_decided, is_reserved}
use Rattle.calculus.specs.Admitted.{Scope, negated}
use Rattle.grammar.specs.Syntax.{RegSyntax, Parens', Not', And', Or', Implies', Star', Plus', Then', Either', reg_tokens, counts_as_action, Syntax, Var'}
use Rattle.grammar.specs.Syntax.{Group', Neg', Both', OneOf', If', Dia', Box', Mu', Nu', fits, tokens, is_within_limits}
use Rattle.formula.specs.Spells.{IsWritten}
use Rattle.formula.specs.declared.error.FormulaFault.{FormulaFault}
use Rattle.formula.specs.declared.error.FormulaFault.TheVariants.{NoToken, Unexpected, Unfinished, ReservedWord, Unbound, OddNegations, NotAnAction, TooLarge}

-- no token, blank or comment stands at the front of the text
abbrev pub NothingBegins : List ℕ → Type 0
NothingBegins text = (piece : Segment) (rest : List ℕ) → IsPiece piece → IsTrue (piece_ends piece rest) → text ≡ written_piece piece ++ rest → ⊥

-- A byte where no token begins, before any reserved word; or the first reserved word.
abbrev pub TokenFault : List ℕ → FormulaFault → ℕ → Type 0
TokenFault text NoToken place =
    (pieces : List Segment) × (rest : List ℕ) × (text ≡ text_of pieces ++ rest) × Cuts pieces rest × IsFalse (list_any is_reserved (tokens_of pieces))
    × (rest ≢ []) × NothingBegins rest × (place ≡ length (text_of pieces))
TokenFault text ReservedWord place =
    (pieces : List Segment) × (word rest : List ℕ) × (text ≡ text_of pieces ++ (word ++ rest)) × Cuts pieces (word ++ rest)
    × IsFalse (list_any is_reserved (tokens_of pieces))
    × IsPiece (Word (Reserved word)) × IsTrue (piece_ends (Word (Reserved word)) rest) × (place ≡ length (text_of pieces))
TokenFault text _ place = ⊥

-- a formula of the grammar begins with these tokens
abbrev pub BeginsFormula : List Token → Type 0
BeginsFormula front = (s : Syntax) × (more : List Token) × IsTrue (fits s) × (tokens s ≡ front ++ more)

abbrev pub BeginsWithin : List Token → Type 0
BeginsWithin front = (s : Syntax) × (more : List Token) × IsTrue (fits s) × IsTrue (is_within_limits s) × (tokens s ≡ front ++ more)

-- The text is all tokens, none reserved.
pub record IsTokens (text : List ℕ) (pieces : List Segment) : Type 0 where
  pub joined : text ≡ text_of pieces
  pub cut : Cuts pieces []
  pub decided : IsTrue (is_decided (tokens_of pieces))
  pub free : IsFalse (list_any is_reserved (tokens_of pieces))

-- The first token up to which no formula begins, or none within the limits; or the tokens' end, where they could still go on.
abbrev pub GrammarFault : List ℕ → FormulaFault → ℕ → Type 0
GrammarFault text Unexpected place =
    (pieces : List Segment) × (front back : List Token) × (token : Token) × IsTokens text pieces × (tokens_of pieces ≡ front ++ token ∷ back)
    × BeginsWithin front × (BeginsFormula (front ++ token ∷ []) → ⊥) × (slice_get (offsets_from 0 pieces) (length front) ≡ Some place)
GrammarFault text TooLarge place =
    (pieces : List Segment) × (front back : List Token) × (token : Token) × IsTokens text pieces × (tokens_of pieces ≡ front ++ token ∷ back)
    × BeginsWithin front × BeginsFormula (front ++ token ∷ []) × (BeginsWithin (front ++ token ∷ []) → ⊥)
    × (slice_get (offsets_from 0 pieces) (length front) ≡ Some place)
GrammarFault text Unfinished place =
    (pieces : List Segment) × IsTokens text pieces × BeginsWithin (tokens_of pieces)
    × ((s : Syntax) → IsTrue (fits s) → tokens s ≡ tokens_of pieces → ⊥) × (place ≡ length text)
GrammarFault text _ place = ⊥

-- an operand that is no action formula, at its first token
abbrev pub operand_fault : RegSyntax → ℕ → List ℕ → List ℕ
operand_fault r at faults = if counts_as_action r then faults else at ∷ faults

-- the places, in tokens, of the operands of `!`, `&&`, `||` and `=>` that are no action formulas, where r begins at this place
abbrev pub reg_faults : ℕ → RegSyntax → List ℕ
reg_faults at (Parens' r) = reg_faults (at + 1) r
reg_faults at (Not' r) = operand_fault r (at + 1) (reg_faults (at + 1) r)
reg_faults at (And' r s) = let next = at + (length (reg_tokens r) + 1) in operand_fault r at (reg_faults at r) ++ operand_fault s next (reg_faults next s)
reg_faults at (Or' r s) = let next = at + (length (reg_tokens r) + 1) in operand_fault r at (reg_faults at r) ++ operand_fault s next (reg_faults next s)
reg_faults at (Implies' r s) = let next = at + (length (reg_tokens r) + 1) in operand_fault r at (reg_faults at r) ++ operand_fault s next (reg_faults next s)
reg_faults at (Star' r) = reg_faults at r
reg_faults at (Plus' r) = reg_faults at r
reg_faults at (Then' r s) = reg_faults at r ++ reg_faults (at + (length (reg_tokens r) + 1)) s
reg_faults at (Either' r s) = reg_faults at r ++ reg_faults (at + (length (reg_tokens r) + 1)) s
reg_faults at _ = []

abbrev pub operand_faults : ℕ → Syntax → List ℕ
operand_faults at (Group' f) = operand_faults (at + 1) f
operand_faults at (Neg' f) = operand_faults (at + 1) f
operand_faults at (Both' f g) = operand_faults at f ++ operand_faults (at + (length (tokens f) + 1)) g
operand_faults at (OneOf' f g) = operand_faults at f ++ operand_faults (at + (length (tokens f) + 1)) g
operand_faults at (If' f g) = operand_faults at f ++ operand_faults (at + (length (tokens f) + 1)) g
operand_faults at (Dia' r f) = reg_faults (at + 1) r ++ operand_faults (at + (length (reg_tokens r) + 2)) f
operand_faults at (Box' r f) = reg_faults (at + 1) r ++ operand_faults (at + (length (reg_tokens r) + 2)) f
operand_faults at (Mu' name f) = operand_faults (at + 3) f
operand_faults at (Nu' name f) = operand_faults (at + 3) f
operand_faults at _ = []

-- what is wrong with a variable in this scope
abbrev pub variable_fault : List ℕ → Scope → ℕ → List (ℕ × FormulaFault)
variable_fault name [] at = (at, Unbound) ∷ []
variable_fault name (binder ∷ scope) at =
    if bytes_eq name binder.0 then (if binder.1 then [] else (at, OddNegations) ∷ []) else variable_fault name scope at

-- the places, in tokens, of the variables that may not stand where they do
abbrev pub variable_faults : Scope → ℕ → Syntax → List (ℕ × FormulaFault)
variable_faults scope at (Var' name) = variable_fault name scope at
variable_faults scope at (Group' f) = variable_faults scope (at + 1) f
variable_faults scope at (Neg' f) = variable_faults (negated scope) (at + 1) f
variable_faults scope at (Both' f g) = variable_faults scope at f ++ variable_faults scope (at + (length (tokens f) + 1)) g
variable_faults scope at (OneOf' f g) = variable_faults scope at f ++ variable_faults scope (at + (length (tokens f) + 1)) g
variable_faults scope at (If' f g) = variable_faults (negated scope) at f ++ variable_faults scope (at + (length (tokens f) + 1)) g
variable_faults scope at (Dia' r f) = variable_faults scope (at + (length (reg_tokens r) + 2)) f
variable_faults scope at (Box' r f) = variable_faults scope (at + (length (reg_tokens r) + 2)) f
variable_faults scope at (Mu' name f) = variable_faults ((name, true) ∷ scope) (at + 3) f
variable_faults scope at (Nu' name f) = variable_faults ((name, true) ∷ scope) (at + 3) f
variable_faults scope at _ = []

-- an operand or a variable, in a text of the grammar within the limits
abbrev pub TreeFault : List ℕ → FormulaFault → ℕ → Type 0
TreeFault text NotAnAction place =
    (pieces : List Segment) × (s : Syntax) × (first : ℕ) × (others : List ℕ) × IsWritten text pieces s × IsTrue (is_within_limits s)
    × (operand_faults 0 s ≡ first ∷ others) × (slice_get (offsets_from 0 pieces) first ≡ Some place)
TreeFault text fault place =
    (pieces : List Segment) × (s : Syntax) × (first : ℕ) × (others : List (ℕ × FormulaFault)) × IsWritten text pieces s × IsTrue (is_within_limits s)
    × (operand_faults 0 s ≡ []) × (variable_faults [] 0 s ≡ (first, fault) ∷ others) × (slice_get (offsets_from 0 pieces) first ≡ Some place)

-- The first of these decides: the text is too long; no token, or a reserved word; the grammar and its limits; an operand; a variable.
abbrev pub HasFormulaFault : List ℕ → FormulaFault → ℕ → Type 0
HasFormulaFault text fault place =
    ((LONGEST_TEXT < length text) × (fault ≡ TooLarge) × (place ≡ LONGEST_TEXT))
    ⊎ ((length text ≤ LONGEST_TEXT) × (TokenFault text fault place ⊎ (GrammarFault text fault place ⊎ TreeFault text fault place)))

-- the same of the fault with its place
abbrev pub HasFormulaFaultAt : List ℕ → FormulaFault × ℕ → Type 0
HasFormulaFaultAt text told = HasFormulaFault text told.0 told.1
