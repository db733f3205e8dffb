use Rattle.pgsolver.proofs.Passing.{owner_none, owner_passes}
use Rattle.pgsolver.proofs.tokens.owner.Goals as goal

pub returns-in-Some : goal.returns-in-Some
returns-in-Some g c = owner_passes c.in-Some.digit c.owner_of.result _ _ (rw c.in-Some.is at c.in_ok-digit.ensures) c.owner_of.ensures

pub returns-in-None : goal.returns-in-None
returns-in-None g c = owner_none _ _ (rw c.in-None.is at c.in_ok-digit.ensures)
