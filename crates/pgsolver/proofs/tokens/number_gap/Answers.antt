use Rattle.pgsolver.proofs.Passing.{number_gap_none, number_no_gap, number_and_gap}
use Rattle.pgsolver.proofs.tokens.number_gap.Goals as goal

pub returns-in_default : goal.returns-in_default
returns-in_default g c = number_gap_none _ _ (rw c.in_default.is at c.in_ok-found.ensures)

pub returns-then-not-branch : goal.returns-then-not-branch
returns-then-not-branch g c = number_no_gap c.in-Some.found _ _ _ (rw c.in-Some.is at c.in_ok-found.ensures) (rw c.if-not-branch.true at c.in_ok-gap.ensures)

pub returns : goal.returns
returns g c = number_and_gap c.in-Some.found _ _ _ (rw c.in-Some.is at c.in_ok-found.ensures) (rw c.if-not-branch.false at c.in_ok-gap.ensures)
