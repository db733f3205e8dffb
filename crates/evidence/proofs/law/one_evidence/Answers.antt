use Rattle.evidence.proofs.Alone.{one_evidence}
use Rattle.evidence.proofs.law.one_evidence.Goals as goal

pub returns : goal.returns
returns c = one_evidence
