use Rattle.std.proofs.Common.{Some, None}
use Rattle.text.proofs.Streaming.{end_stops, end_comes}
use Rattle.lts.proofs.Scanning.{header_of, counts_stop_1, counts_go_1, counts_stop_2, counts_go_2, counts_stop_3, counts_go_3}
use Rattle.lts.proofs.scan.counts.Goals as goal

pub returns-in_default : goal.returns-in_default
returns-in_default g c = counts_stop_1 _ _ (rw c.in_default.is at c.in_ok-initial.ensures)

pub returns-in_default-2 : goal.returns-in_default-2
returns-in_default-2 g c = counts_go_1 c.in-Some.initial None _ _ _ (rw c.in-Some.is at c.in_ok-initial.ensures)
    (counts_stop_2 c.in-Some.initial _ _ (rw c.in_default-2.is at c.in_ok-transitions.ensures))

pub returns-in_default-3 : goal.returns-in_default-3
returns-in_default-3 g c =
    counts_go_1 c.in-Some.initial None _ _ _ (rw c.in-Some.is at c.in_ok-initial.ensures)
    (counts_go_2 c.in-Some.initial c.in-Some-2.transitions None _ _ _ (rw c.in-Some-2.is at c.in_ok-transitions.ensures)
    (counts_stop_3 c.in-Some.initial c.in-Some-2.transitions _ _ (rw c.in_default-3.is at c.in_ok-states.ensures)))

pub returns-then-not-branch : goal.returns-then-not-branch
returns-then-not-branch g c =
    counts_go_1 c.in-Some.initial None _ _ _ (rw c.in-Some.is at c.in_ok-initial.ensures)
    (counts_go_2 c.in-Some.initial c.in-Some-2.transitions None _ _ _ (rw c.in-Some-2.is at c.in_ok-transitions.ensures)
    (counts_go_3 c.in-Some.initial c.in-Some-2.transitions c.in-Some-3.states None _ _ _ (rw c.in-Some-3.is at c.in_ok-states.ensures)
    (end_stops (header_of c.in-Some.initial c.in-Some-2.transitions c.in-Some-3.states) _ _ (rw c.if-not-branch.true at c.in_ok-has_ended.ensures))))

pub returns : goal.returns
returns g c =
    counts_go_1 c.in-Some.initial (Some (header_of c.in-Some.initial c.in-Some-2.transitions c.in-Some-3.states)) _ _ _
    (rw c.in-Some.is at c.in_ok-initial.ensures)
    (counts_go_2 c.in-Some.initial c.in-Some-2.transitions (Some (header_of c.in-Some.initial c.in-Some-2.transitions c.in-Some-3.states)) _ _ _
    (rw c.in-Some-2.is at c.in_ok-transitions.ensures)
    (counts_go_3 c.in-Some.initial c.in-Some-2.transitions c.in-Some-3.states
    (Some (header_of c.in-Some.initial c.in-Some-2.transitions c.in-Some-3.states)) _ _ _ (rw c.in-Some-3.is at c.in_ok-states.ensures)
    (end_comes (header_of c.in-Some.initial c.in-Some-2.transitions c.in-Some-3.states) _ _ (rw c.if-not-branch.false at c.in_ok-has_ended.ensures))))
