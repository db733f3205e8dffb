use Rattle.std.proofs.lemmas.Result.{MatchResult-weaker}
use Rattle.lts.proofs.Scanning.{header_stops_1, header_stops_2, header_goes_on}
use Rattle.lts.proofs.scan.header.Goals as goal

pub returns-then-not-branch : goal.returns-then-not-branch
returns-then-not-branch g c = header_stops_1 _ _ (rw c.if-not-branch.true at c.in_ok-word.ensures)

pub returns-then-not-branch-2 : goal.returns-then-not-branch-2
returns-then-not-branch-2 g c = header_stops_2 _ _ _ (rw c.if-not-branch.false at c.in_ok-word.ensures) (rw c.if-not-branch-2.true at c.in_ok-sign.ensures)

pub returns : goal.returns
returns g c = MatchResult-weaker c.counts.result c.counts.ensures (λ r rest. header_goes_on r _ _ _ _ (rw c.if-not-branch.false at c.in_ok-word.ensures)
    (rw c.if-not-branch-2.false at c.in_ok-sign.ensures) rest) (λ fault cause. cause)
