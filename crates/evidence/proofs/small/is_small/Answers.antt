use Rattle.std.proofs.Common.{arith}
use Rattle.evidence.proofs.Pairs.{small_all}
use Rattle.evidence.proofs.small.is_small.Goals as goal

pub returns : goal.returns
returns c = λ yes. small_all c.args.evidence.now.evidence c.loop-v.v (omega (arith, c.known.ensures.long)) c.loop-v.invariant
