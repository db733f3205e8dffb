use Rattle.std.proofs.Common.{[]}
use Rattle.std.proofs.lemmas.Result.{MatchResult-weaker}
use Rattle.pgsolver.proofs.Passing.{no_target, no_digit, no_first, some_targets}
use Rattle.pgsolver.proofs.tokens.all_targets.Goals as goal

pub returns-then-not-branch : goal.returns-then-not-branch
returns-then-not-branch g c = no_target _ _ _ (rw c.if-not-branch.true at c.in_ok-gap.ensures)

pub returns-then-not-branch-2 : goal.returns-then-not-branch-2
returns-then-not-branch-2 g c = no_digit _ _ _ _ (rw c.if-not-branch.false at c.in_ok-gap.ensures) (rw c.if-not-branch-2.true at c.in_ok-digit_follows.ensures)

pub returns-in_default : goal.returns-in_default
returns-in_default g c = no_first [] [] _ _ _ _ (rw c.if-not-branch.false at c.in_ok-gap.ensures) (rw c.if-not-branch-2.false at c.in_ok-digit_follows.ensures)
    (rw c.in_default.is at c.in_ok-first.ensures)

pub returns : goal.returns
returns g c = MatchResult-weaker c.more_targets.result c.more_targets.ensures
    (λ found more. some_targets c.args.targets.now.items c.put.new.numbers.items c.more_targets.new.targets.items c.in-Some.first found _ _ _ _ _ (rw c.if-not-branch.false at c.in_ok-gap.ensures)
    (rw c.if-not-branch-2.false at c.in_ok-digit_follows.ensures) (rw c.in-Some.is at c.in_ok-first.ensures) c.in_ok-put.ensures more)
    (λ fault cause. cause)
