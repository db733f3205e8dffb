use Rattle.evidence.proofs.Parts.{witness_wins}
use Rattle.evidence.proofs.law.witness_wins.Goals as goal

pub returns : goal.returns
returns c = witness_wins
