use Rattle.lts.proofs.AtHand.{past_is}
use Rattle.lts.proofs.plain.past.Goals as goal

pub returns : goal.returns
returns c = past_is _ _ c.strip_prefix.result c.strip_prefix.ensures.cases
