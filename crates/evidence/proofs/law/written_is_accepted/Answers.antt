use Rattle.evidence.proofs.Canonical.{written_is_accepted}
use Rattle.evidence.proofs.law.written_is_accepted.Goals as goal

pub returns : goal.returns
returns c = written_is_accepted
