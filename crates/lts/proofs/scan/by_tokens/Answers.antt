use Rattle.std.proofs.Common.{Some, None, []}
use Rattle.lts.proofs.Scanning.{no_open, no_source, no_label, no_target, a_target, from_source}
use Rattle.lts.proofs.scan.by_tokens.Goals as goal

pub returns-then-not-branch : goal.returns-then-not-branch
returns-then-not-branch g c = no_open [] _ _ (rw c.if-not-branch.true at c.in_ok-sign.ensures)

pub returns-in_default : goal.returns-in_default
returns-in_default g c = no_source [] _ _ _ (rw c.if-not-branch.false at c.in_ok-sign.ensures) (rw c.in_default.is at c.in_ok-source.ensures)

pub returns-then-not-branch-2 : goal.returns-then-not-branch-2
returns-then-not-branch-2 g c =
    from_source c.in-Some.source [] None _ _ _ _ (rw c.if-not-branch.false at c.in_ok-sign.ensures) (rw c.in-Some.is at c.in_ok-source.ensures)
    (no_label c.in-Some.source 4097 [] _ _ (rw c.if-not-branch-2.true at c.in_ok-quoted.ensures))

pub returns-in_default-2 : goal.returns-in_default-2
returns-in_default-2 g c =
    from_source c.in-Some.source c.quoted.new.kept.items None _ _ _ _ (rw c.if-not-branch.false at c.in_ok-sign.ensures)
    (rw c.in-Some.is at c.in_ok-source.ensures)
    (no_target c.in-Some.source 4097 c.quoted.new.kept.items _ _ _ (rw c.if-not-branch-2.false at c.in_ok-quoted.ensures)
    (rw c.in_default-2.is at c.in_ok-target.ensures))

pub returns : goal.returns
returns g c =
    from_source c.in-Some.source c.quoted.new.kept.items (Some (record { source = c.in-Some.source; target = c.in-Some-2.target })) _ _ _ _
    (rw c.if-not-branch.false at c.in_ok-sign.ensures) (rw c.in-Some.is at c.in_ok-source.ensures)
    (a_target c.in-Some.source c.in-Some-2.target c.quoted.new.kept.items _ _ _ (rw c.if-not-branch-2.false at c.in_ok-quoted.ensures)
    (rw c.in-Some-2.is at c.in_ok-target.ensures))
