-- the run so far
use Rattle.text.specs.Lines.{IfKnown}
use Rattle.text.proofs.Streaming.{RunsSo}
use Rattle.text.proofs.stream.run.Given as goal

abbrev pub invariant-loop : goal.invariant-loop
invariant-loop g l = IfKnown (g.B.Read.remaining l.fn.reader) (g.B.Read.remaining l.reader) (RunsSo l.class l.most l.kept.items)
