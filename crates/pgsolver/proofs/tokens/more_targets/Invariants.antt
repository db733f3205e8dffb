-- what was added so far
use Rattle.text.specs.Lines.{IfKnown}
use Rattle.pgsolver.proofs.Passing.{AddsSo}
use Rattle.pgsolver.proofs.tokens.more_targets.Given as goal

abbrev pub invariant-loop : goal.invariant-loop
invariant-loop g l = IfKnown (g.B.Read.remaining l.fn.reader) (g.B.Read.remaining l.reader) (AddsSo l.fn.targets.items l.targets.items)
