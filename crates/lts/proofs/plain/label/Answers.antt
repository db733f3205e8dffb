use Rattle.lts.proofs.AtHand.{inner_is}
use Rattle.lts.proofs.plain.label.Goals as goal

pub returns-clause-inner : goal.returns-clause-inner
returns-clause-inner c = inner_is c.args.bytes.now c.split_at.result.0.now c.inner.result c.inner.ensures.count c.split_at.ensures.front
