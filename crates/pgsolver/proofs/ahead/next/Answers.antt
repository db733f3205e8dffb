use Rattle.std.proofs.Common.{sym, ◌∙◌}
use Rattle.text.proofs.Streaming.{taken}
use Rattle.pgsolver.proofs.Passing.{no_blank, blank_more}
use Rattle.pgsolver.proofs.ahead.next.Goals as goal

pub loop-init : goal.loop-init
loop-init g c = no_blank _

pub loop-preserved : goal.loop-preserved
loop-preserved g c = blank_more _ _ _ c.in-Some.byte c.loop.invariant
    (taken _ _ _ _ c.in-Some.byte c.in_ok-next.next c.in_ok-next.ensures.next c.in-Some.is c.in_ok-next.ensures.room c.consume.ensures.bytes)
    (sym c.is_blank.ensures ∙ c.if-is_blank.true)
