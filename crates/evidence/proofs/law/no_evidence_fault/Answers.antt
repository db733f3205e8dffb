use Rattle.evidence.proofs.Alone.{no_fault}
use Rattle.evidence.proofs.law.no_evidence_fault.Goals as goal

pub returns : goal.returns
returns c = no_fault
