use Rattle.std.proofs.Common.{true, false, []}
use Rattle.pgsolver.proofs.Passing.{no_head, no_rest, vertex_passes}
use Rattle.pgsolver.proofs.tokens.by_tokens.Goals as goal

pub returns-in_default : goal.returns-in_default
returns-in_default g c = no_head [] _ _ (rw c.in_default.is at c.in_ok-head.ensures)

pub returns-then-not-branch : goal.returns-then-not-branch
returns-then-not-branch g c = no_rest c.in-Some.head [] [] [] _ _ _ (rw c.in-Some.is at c.in_ok-head.ensures)
    (rw c.if-not-branch.true at c.in_ok-all_targets.ensures)

pub returns-then-not-branch-2 : goal.returns-then-not-branch-2
returns-then-not-branch-2 g c = vertex_passes c.in-Some.head c.all_targets.new.targets.items false _ _ _ _ (rw c.in-Some.is at c.in_ok-head.ensures)
    (rw (c.if-not-branch.false, c.clear.ensures.items) at c.in_ok-all_targets.ensures) (rw c.if-not-branch-2.true at c.in_ok-tail.ensures)

pub returns : goal.returns
returns g c = vertex_passes c.in-Some.head c.all_targets.new.targets.items true _ _ _ _ (rw c.in-Some.is at c.in_ok-head.ensures)
    (rw (c.if-not-branch.false, c.clear.ensures.items) at c.in_ok-all_targets.ensures) (rw c.if-not-branch-2.false at c.in_ok-tail.ensures)
