use Rattle.evidence.proofs.Taken.{witness_shows}
use Rattle.evidence.proofs.law.witness_shows.Goals as goal

pub returns : goal.returns
returns c = witness_shows
