use Rattle.std.proofs.Common.{Some, None}
use Rattle.text.proofs.Streaming.{end_stops, end_comes}
use Rattle.lts.proofs.Scanning.{target_stops_1, target_stops_2, target_goes_on}
use Rattle.lts.proofs.scan.target.Goals as goal

pub returns-then-not-branch : goal.returns-then-not-branch
returns-then-not-branch g c = target_stops_1 _ _ (rw c.if-not-branch.true at c.in_ok-sign.ensures)

pub returns-in_default : goal.returns-in_default
returns-in_default g c = target_stops_2 _ _ _ (rw c.if-not-branch.false at c.in_ok-sign.ensures) (rw c.in_default.is at c.in_ok-target.ensures)

pub returns-then-not-branch-2 : goal.returns-then-not-branch-2
returns-then-not-branch-2 g c =
    target_goes_on c.in-Some.target None _ _ _ _ (rw c.if-not-branch.false at c.in_ok-sign.ensures) (rw c.in-Some.is at c.in_ok-target.ensures)
    (end_stops c.in-Some.target _ _ (rw c.if-not-branch-2.true at c.in_ok-has_ended.ensures))

pub returns : goal.returns
returns g c =
    target_goes_on c.in-Some.target (Some c.in-Some.target) _ _ _ _ (rw c.if-not-branch.false at c.in_ok-sign.ensures)
    (rw c.in-Some.is at c.in_ok-target.ensures) (end_comes c.in-Some.target _ _ (rw c.if-not-branch-2.false at c.in_ok-has_ended.ensures))
