use Rattle.std.proofs.Common.{Some, None}
use Rattle.text.proofs.Streaming.{end_stops, end_comes}
use Rattle.pgsolver.proofs.Passing.{header_stops_1, header_stops_2, header_goes_on}
use Rattle.pgsolver.proofs.tokens.header.Goals as goal

pub returns-then-not-branch : goal.returns-then-not-branch
returns-then-not-branch g c = header_stops_1 _ _ (rw c.if-not-branch.true at c.in_ok-word.ensures)

pub returns-in_default : goal.returns-in_default
returns-in_default g c = header_stops_2 _ _ _ (rw c.if-not-branch.false at c.in_ok-word.ensures) (rw c.in_default.is at c.in_ok-greatest.ensures)

pub returns-then-not-branch-2 : goal.returns-then-not-branch-2
returns-then-not-branch-2 g c =
    header_goes_on c.in-Some.greatest None _ _ _ _ (rw c.if-not-branch.false at c.in_ok-word.ensures) (rw c.in-Some.is at c.in_ok-greatest.ensures)
    (end_stops c.in-Some.greatest _ _ (rw c.if-not-branch-2.true at c.in_ok-has_ended.ensures))

pub returns : goal.returns
returns g c =
    header_goes_on c.in-Some.greatest (Some c.in-Some.greatest) _ _ _ _ (rw c.if-not-branch.false at c.in_ok-word.ensures)
    (rw c.in-Some.is at c.in_ok-greatest.ensures) (end_comes c.in-Some.greatest _ _ (rw c.if-not-branch-2.false at c.in_ok-has_ended.ensures))
