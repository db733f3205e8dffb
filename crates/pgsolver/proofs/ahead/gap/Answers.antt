use Rattle.std.proofs.Common.{◌≡◌, false, sym, subst, ◌∙◌}
use Rattle.std.specs.Prelude.{IfSome}
use Rattle.text.specs.Text.{is_blank}
use Rattle.text.proofs.Streaming.{taken}
use Rattle.pgsolver.proofs.Passing.{gap_taken, gap_missing}
use Rattle.pgsolver.proofs.ahead.gap.Goals as goal

pub returns-in-Some : goal.returns-in-Some
returns-in-Some g c = gap_taken _ _ c.in-Some.byte (sym c.is_blank.ensures ∙ c.if-is_blank.true)
    (taken _ _ _ _ c.in-Some.byte c.in_ok-byte.field-0 c.in_ok-byte.ensures.next c.in-Some.is c.in_ok-byte.ensures.room c.consume.ensures.bytes)

pub returns-in_default : goal.returns-in_default
returns-in_default g c = gap_missing _ _ c.in_ok-byte.field-0 c.in_ok-byte.ensures.next
    (subst (λ o. IfSome o (λ b. is_blank b ≡ false)) (sym c.in-Some.is) (sym c.is_blank.ensures ∙ c.if-is_blank.false))

pub returns-in_default-2 : goal.returns-in_default-2
returns-in_default-2 g c = gap_missing _ _ c.in_ok-byte.field-0 c.in_ok-byte.ensures.next
    (subst (λ o. IfSome o (λ b. is_blank b ≡ false)) (sym c.in_default.is) tt)
