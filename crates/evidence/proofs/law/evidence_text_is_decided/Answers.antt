use Rattle.evidence.proofs.Decided.{decided}
use Rattle.evidence.proofs.law.evidence_text_is_decided.Goals as goal

pub returns : goal.returns
returns c = decided
