use Rattle.std.proofs.Common.{◌-◌, length}
use Rattle.evidence.specs.Reading.{EntriesSoFar}
use Rattle.evidence.proofs.reader.read_lines.Given as goal

abbrev pub invariant-loop-reader : goal.invariant-loop-reader
invariant-loop-reader g l = EntriesSoFar l.fn.evidence l.good (g.B.Read.remaining l.fn.reader) (g.B.Read.remaining l.reader) l.evidence

abbrev pub decreases-loop-reader : goal.decreases-loop-reader
decreases-loop-reader g l = length l.fn.evidence.evidence.entries - l.good
