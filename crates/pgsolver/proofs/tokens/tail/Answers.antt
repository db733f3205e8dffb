use Rattle.std.proofs.lemmas.Result.{MatchResult-weaker}
use Rattle.pgsolver.proofs.Passing.{tail_no_name, tail_no_sign, tail_passes}
use Rattle.pgsolver.proofs.tokens.tail.Goals as goal

pub returns-then-not-branch : goal.returns-then-not-branch
returns-then-not-branch g c = tail_no_name _ _ (rw c.if-not-branch.true at c.in_ok-name.ensures)

pub returns-then-not-branch-2 : goal.returns-then-not-branch-2
returns-then-not-branch-2 g c = tail_no_sign _ _ _ (rw c.if-not-branch.false at c.in_ok-name.ensures) (rw c.if-not-branch-2.true at c.in_ok-sign.ensures)

pub returns : goal.returns
returns g c = MatchResult-weaker c.has_ended.result c.has_ended.ensures (λ found ends. tail_passes found _ _ _ _ (rw c.if-not-branch.false at c.in_ok-name.ensures)
    (rw c.if-not-branch-2.false at c.in_ok-sign.ensures) ends) (λ fault cause. cause)
