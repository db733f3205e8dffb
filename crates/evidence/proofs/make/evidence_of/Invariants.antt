use Rattle.evidence.proofs.Making.{IsMade}
use Rattle.evidence.proofs.make.evidence_of.Given as goal

abbrev pub invariant-loop-v : goal.invariant-loop-v
invariant-loop-v l = IsMade l.fn.player l.game l.settled.values l.v l.evidence
