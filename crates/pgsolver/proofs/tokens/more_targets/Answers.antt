use Rattle.pgsolver.proofs.Passing.{adds_none, adds_more, adds_wrong, adds_all}
use Rattle.pgsolver.proofs.tokens.more_targets.Goals as goal

pub loop-init : goal.loop-init
loop-init g c = adds_none _ c.args.targets.now.items

pub returns-then-not-branch : goal.returns-then-not-branch
returns-then-not-branch g c = adds_all _ _ _ _ _ c.loop.invariant (rw c.if-not-branch.true at c.in_ok-comma.ensures)

pub returns-in_default : goal.returns-in_default
returns-in_default g c = adds_wrong _ _ _ _ _ _ c.loop.invariant (rw c.if-not-branch.false at c.in_ok-comma.ensures)
    (rw c.in_default.is at c.in_ok-target.ensures)

pub loop-preserved : goal.loop-preserved
loop-preserved g c = adds_more _ _ _ _ c.in-Some.target _ _ _ _ c.loop.invariant (rw c.if-not-branch.false at c.in_ok-comma.ensures)
    (rw c.in-Some.is at c.in_ok-target.ensures) c.in_ok-put.ensures c.each_once-room.ensures
