use Rattle.pgsolver.proofs.Passing.{no_id, no_priority, no_owner, head_passes}
use Rattle.pgsolver.proofs.tokens.front.Goals as goal

pub returns-in_default : goal.returns-in_default
returns-in_default g c = no_id _ _ (rw c.in_default.is at c.in_ok-id.ensures)

pub returns-in_default-2 : goal.returns-in_default-2
returns-in_default-2 g c = no_priority c.in-Some.id _ _ _ (rw c.in-Some.is at c.in_ok-id.ensures) (rw c.in_default-2.is at c.in_ok-priority.ensures)

pub returns-in_default-3 : goal.returns-in_default-3
returns-in_default-3 g c = no_owner c.in-Some.id c.in-Some-2.priority _ _ _ _ (rw c.in-Some.is at c.in_ok-id.ensures)
    (rw c.in-Some-2.is at c.in_ok-priority.ensures) (rw c.in_default-3.is at c.in_ok-owner.ensures)

pub returns : goal.returns
returns g c = head_passes c.in-Some.id c.in-Some-2.priority c.in-Some-3.owner _ _ _ _ (rw c.in-Some.is at c.in_ok-id.ensures)
    (rw c.in-Some-2.is at c.in_ok-priority.ensures) (rw c.in-Some-3.is at c.in_ok-owner.ensures)
