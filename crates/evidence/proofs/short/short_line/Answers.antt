use Rattle.evidence.proofs.Shortening.{takes_none, takes_more, takes_all}
use Rattle.evidence.proofs.short.short_line.Goals as goal

pub loop-init : goal.loop-init
loop-init g c = takes_none _ _ c.clear.ensures.items

pub loop-preserved : goal.loop-preserved
loop-preserved g c = takes_more _ _ _ c.in-Some.after _ _ _ c.loop.invariant (rw c.in-Some.is at c.in_ok-after.ensures)

pub returns-in-None : goal.returns-in-None
returns-in-None g c = takes_all _ _ _ _ _ _ c.loop.invariant (rw c.in-None.is at c.in_ok-after.ensures)
