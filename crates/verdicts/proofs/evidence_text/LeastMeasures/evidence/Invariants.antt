use Rattle.measures.specs.StoredProposal.{values_of}
use Rattle.evidence.proofs.Making.{IsMade}
use Rattle.verdicts.proofs.evidence_text.LeastMeasures.evidence.Given as goal

abbrev pub invariant-loop-v : goal.invariant-loop-v
invariant-loop-v l = IsMade l.self.player l.game (values_of l.self.player l.self.proposals.now) l.v l.evidence
