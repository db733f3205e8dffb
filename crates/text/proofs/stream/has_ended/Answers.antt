use Rattle.std.proofs.Common.{subst}
use Rattle.text.specs.Stream.{Ends}
use Rattle.text.specs.Lines.{IfKnown}
use Rattle.text.proofs.Streaming.{known_then, known_both, ends_here, ends_known, none_is}
use Rattle.text.proofs.stream.has_ended.Goals as goal

pub returns-then-branch : goal.returns-then-branch
returns-then-branch g c =
    known_then _ _ _ c.in_ok-skip_blanks.ensures.next (known_both _ _ _ _ _ c.in_ok-accept.ensures (rw c.if-branch.true at c.in_ok-accept-2.ensures))
    (λ text mid left runs rest. ends_here text mid rest.0 left c.in_ok-accept.field-0 runs.0 rest.1 rest.2)

pub returns : goal.returns
returns g c =
    subst (λ r. IfKnown (g.B.Read.remaining c.args.reader.now) (g.B.Read.remaining c.look.new.reader) (Ends r))
    (none_is c.in_ok-look.field-0 c.is_none.result c.is_none.ensures)
    (ends_known _ _ _ _ _ c.in_ok-skip_blanks.field-0 c.in_ok-accept.field-0 c.in_ok-look.field-0 c.in_ok-skip_blanks.ensures.next c.in_ok-accept.ensures
    (rw c.if-branch.false at c.in_ok-accept-2.ensures) c.in_ok-look.ensures.next)
