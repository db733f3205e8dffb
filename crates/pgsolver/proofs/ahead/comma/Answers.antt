use Rattle.text.proofs.Streaming.{next_is, next_is_not}
use Rattle.pgsolver.proofs.Passing.{comma_taken, comma_missing}
use Rattle.pgsolver.proofs.ahead.comma.Goals as goal

pub returns-then-ne : goal.returns-then-ne
returns-then-ne g c =
    comma_missing c.in_ok-next.field-0 _ _ c.in_ok-next.ensures.next (next_is_not c.in_ok-next.field-0 44 c.ne.result c.ne.ensures c.if-ne.true)

pub returns : goal.returns
returns g c =
    comma_taken c.in_ok-next.field-0 _ _ _ _ c.in_ok-next.ensures.next (next_is c.in_ok-next.field-0 44 c.ne.result c.ne.ensures c.if-ne.false)
    c.in_ok-next.ensures.room c.consume.ensures.bytes
