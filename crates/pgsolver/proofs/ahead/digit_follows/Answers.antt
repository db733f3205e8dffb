use Rattle.std.proofs.Common.{false}
use Rattle.pgsolver.proofs.Passing.{digit_is, some_digit, none_digit}
use Rattle.pgsolver.proofs.ahead.digit_follows.Goals as goal

pub returns-in-Some : goal.returns-in-Some
returns-in-Some g c = digit_is c.in_ok-byte.field-0 c.is_ascii_digit.result _ _ c.in_ok-byte.ensures.next
    (some_digit c.in_ok-byte.field-0 c.in-Some.byte c.is_ascii_digit.result c.in-Some.is c.is_ascii_digit.ensures.value)

pub returns-in-None : goal.returns-in-None
returns-in-None g c = digit_is c.in_ok-byte.field-0 false _ _ c.in_ok-byte.ensures.next (none_digit c.in_ok-byte.field-0 c.in-None.is)
