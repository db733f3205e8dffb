-- The refusals of a text by where its tokens are.
use Rattle.std.specs.Prelude.{◌≡◌, ℕ, List, [], ◌∷◌, ◌++◌, length, IsTrue, Option, Some, slice_get}
use Rattle.grammar.specs.Token.{Token}
use Rattle.grammar.specs.Syntax.{Syntax, tokens, fits}
use Rattle.formula.specs.Fault.{BeginsFormula, BeginsWithin}
use Rattle.formula.specs.declared.error.FormulaFault.{FormulaFault}
use Rattle.formula.specs.declared.error.FormulaFault.TheVariants as fault
use Rattle.formula.specs.declared.error.FormulaError.{FormulaError}
use Rattle.formula.specs.declared.error.FormulaError.TheVariants as refused

-- the refusal with this fault at this place
abbrev pub IsRefusal : FormulaFault → Option ℕ → FormulaError → Type 0
IsRefusal fault place (refused.Fault other offset) = (other ≡ fault) × (place ≡ Some offset)
IsRefusal fault place refused.Memory = ⊥

-- the refusal of tokens that are no formula, by these places of the tokens and this length of the text
abbrev pub IsGrammarRefusal : (ts : List Token) → (places : List ℕ) → (end : ℕ) → FormulaError → Type 0
IsGrammarRefusal ts places end (refused.Fault fault.Unexpected offset) =
    (front back : List Token) × (token : Token) × (ts ≡ front ++ token ∷ back)
    × BeginsWithin front × (BeginsFormula (front ++ token ∷ []) → ⊥) × (slice_get places (length front) ≡ Some offset)
IsGrammarRefusal ts places end (refused.Fault fault.TooLarge offset) =
    (front back : List Token) × (token : Token) × (ts ≡ front ++ token ∷ back)
    × BeginsWithin front × BeginsFormula (front ++ token ∷ []) × (BeginsWithin (front ++ token ∷ []) → ⊥) × (slice_get places (length front) ≡ Some offset)
IsGrammarRefusal ts places end (refused.Fault fault.Unfinished offset) =
    BeginsWithin ts × ((s : Syntax) → IsTrue (fits s) → tokens s ≡ ts → ⊥) × (offset ≡ end)
IsGrammarRefusal ts places end (refused.Fault _ offset) = ⊥
IsGrammarRefusal ts places end refused.Memory = Unit {0}
