use Rattle.evidence.proofs.Alone.{one_fault}
use Rattle.evidence.proofs.law.one_evidence_fault.Goals as goal

pub returns : goal.returns
returns c = one_fault
