-- the blanks so far
use Rattle.std.specs.Prelude.{[]}
use Rattle.text.specs.Lines.{IfKnown}
use Rattle.text.specs.declared.stream.Class.TheVariants.{Blank}
use Rattle.text.proofs.Streaming.{RunsSo}
use Rattle.text.proofs.stream.skip_blanks.Given as goal

abbrev pub invariant-loop : goal.invariant-loop
invariant-loop g l = IfKnown (g.B.Read.remaining l.fn.reader) (g.B.Read.remaining l.reader) (RunsSo Blank 0 [])
