use Rattle.std.proofs.Common.{◌≡◌, [], ◌∷◌, ◌++◌, Some, subst, sym, ap, ◌∙◌, arith}
use Rattle.text.specs.Tokens.{whole_number}
use Rattle.liftcore.specs.Begun.{IsValue}
use Rattle.liftcore.proofs.Bytewise.{first_digit, no_digit, no_more, one_more}
use Rattle.liftcore.proofs.line.with_digit.Goals as goal

pub returns-then-not-is_ascii_digit : goal.returns-then-not-is_ascii_digit
returns-then-not-is_ascii_digit c = λ digits is rest. no_digit digits rest c.args.byte (sym c.is_ascii_digit.ensures.value ∙ c.if-not-is_ascii_digit.true)

pub returns-in_default : goal.returns-in_default
returns-in_default c = λ digits is.
    let none : digits ≡ [] = subst (IsValue digits) c.in_default.is is in
    ap (λ l. whole_number (l ++ c.args.byte ∷ [])) none
    ∙ first_digit c.from-digit.result c.args.byte (sym c.is_ascii_digit.ensures.value ∙ c.if-not-is_ascii_digit.false) (omega arith)

pub returns-then-number-eq0 : goal.returns-then-number-eq0
returns-then-number-eq0 c = λ digits is rest.
    no_more digits rest c.args.byte (subst (IsValue digits) (c.in-Some.is ∙ ap (λ k. Some k) c.if-number-eq0.true) is)

pub returns : goal.returns
returns c = λ digits is.
    one_more digits c.in-Some.number c.saturating_add.result c.args.byte (subst (IsValue digits) c.in-Some.is is) c.if-number-eq0.false
    (sym c.is_ascii_digit.ensures.value ∙ c.if-not-is_ascii_digit.false) (omega arith)
