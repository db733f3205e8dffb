-- the blanks so far
use Rattle.text.specs.Lines.{IfKnown}
use Rattle.pgsolver.proofs.Passing.{SkipsSo}
use Rattle.pgsolver.proofs.ahead.next.Given as goal

abbrev pub invariant-loop : goal.invariant-loop
invariant-loop g l = IfKnown (g.B.Read.remaining l.fn.reader) (g.B.Read.remaining l.reader) SkipsSo
