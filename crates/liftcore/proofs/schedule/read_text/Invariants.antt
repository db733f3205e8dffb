-- the text that was read so far
use Rattle.text.specs.Lines.{IfKnown}
use Rattle.liftcore.proofs.Taking.{ReadsOn}
use Rattle.liftcore.proofs.schedule.read_text.Given as goal

abbrev pub invariant-loop : goal.invariant-loop
invariant-loop g l = IfKnown (g.B.Read.remaining l.fn.reader) (g.B.Read.remaining l.reader) (ReadsOn l.fn.intake l.intake)
