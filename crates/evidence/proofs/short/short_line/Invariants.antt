-- the line so far
use Rattle.text.specs.Lines.{IfKnown}
use Rattle.evidence.proofs.Shortening.{TakesSo}
use Rattle.evidence.proofs.short.short_line.Given as goal

abbrev pub invariant-loop : goal.invariant-loop
invariant-loop g l = IfKnown (g.B.Read.remaining l.fn.reader) (g.B.Read.remaining l.reader) (TakesSo l.kept.items l.digits)
