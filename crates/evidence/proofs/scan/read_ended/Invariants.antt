use Rattle.evidence.proofs.Scanning.{IsReadTo}
use Rattle.evidence.proofs.scan.read_ended.Given as goal

abbrev pub invariant-loop-k : goal.invariant-loop-k
invariant-loop-k l = IsReadTo l.bytes l.counts l.k l.rest
