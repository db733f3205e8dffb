use Rattle.std.proofs.Common.{◌≡◌, ◌∙◌, ℕ, false, List, get_or, sym}
use Rattle.std.specs.Prelude.{Result, Ok, Err, MatchResult}
use Rattle.text.specs.Text.{is_letter}
use Rattle.grammar.specs.Written.{token_of}
use Rattle.formula.specs.Cutting.{IsFirst, IsAtomless, BeginsReserved, IsSignless, IsTokenless}
use Rattle.grammar.specs.declared.token.Token.{Token}
use Rattle.formula.specs.declared.error.FormulaFault.{FormulaFault}
use Rattle.formula.proofs.Tokenless.{quote-tokenless, reserved-tokenless, sign-tokenless}
use Rattle.formula.proofs.lexer.first_token.Goals as goal

-- what was read, or why no token stands, from a call that says why none of its kind does
either : (text : List ℕ) (R : List ℕ → FormulaFault → Type 0) (r : Result (Token × ℕ) FormulaFault) → ((f : FormulaFault) → R text f → IsTokenless text f)
    → MatchResult r (λ x. IsFirst (token_of x.0) x.1 text) (R text) → MatchResult r (λ x. IsFirst (token_of x.0) x.1 text) (IsTokenless text)
either text R (Ok found) told h = h
either text R (Err f) told h = told f h

pub returns-then-text-eq34 : goal.returns-then-text-eq34
returns-then-text-eq34 c = either c.args.text.now IsAtomless c.atom.result
    (λ f. quote-tokenless c.args.text.now f c.requires c.if-text-eq34.true) c.atom.ensures

pub returns-then-is_letter : goal.returns-then-is_letter
returns-then-is_letter c = either c.args.text.now BeginsReserved c.named.result (reserved-tokenless c.args.text.now) c.named.ensures

pub returns-else-is_letter : goal.returns-else-is_letter
returns-else-is_letter c =
    let text = c.args.text.now in
    let letter : is_letter (get_or text 0 0) ≡ false = sym c.is_letter.ensures ∙ c.if-is_letter.false in
    either text IsSignless c.sign.result (λ f. sign-tokenless text f c.requires c.if-text-eq34.false letter) c.sign.ensures
