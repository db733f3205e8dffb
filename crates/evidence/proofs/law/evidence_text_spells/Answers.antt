use Rattle.evidence.proofs.Canonical.{canon_spells}
use Rattle.evidence.proofs.law.evidence_text_spells.Goals as goal

pub returns : goal.returns
returns c = canon_spells
