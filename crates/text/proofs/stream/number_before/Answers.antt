use Rattle.std.proofs.Common.{[], ◌∷◌}
use Rattle.text.proofs.Streaming.{known_only, known_then, before_none, before_no_sign, before_passes}
use Rattle.text.proofs.stream.number_before.Goals as goal

pub returns-in_default : goal.returns-in_default
returns-in_default g c = known_only _ _ (rw c.in_default.is at c.in_ok-found.ensures) (λ text left none. before_none (c.args.token ∷ []) text left none)

pub returns-then-not-branch : goal.returns-then-not-branch
returns-then-not-branch g c =
    known_then _ _ _ (rw c.in-Some.is at c.in_ok-found.ensures) (rw c.if-not-branch.true at c.in_ok-sign.ensures)
    (λ text mid left some none. before_no_sign (c.args.token ∷ []) text mid left c.in-Some.found some none)

pub returns : goal.returns
returns g c =
    known_then _ _ _ (rw c.in-Some.is at c.in_ok-found.ensures) (rw c.if-not-branch.false at c.in_ok-sign.ensures)
    (λ text mid left some signed. before_passes (c.args.token ∷ []) text mid left c.in-Some.found some signed)
