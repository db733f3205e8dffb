use Rattle.std.proofs.Common.{arith}
use Rattle.evidence.proofs.Pairs.{all_small}
use Rattle.evidence.proofs.small.are_small.Goals as goal

pub returns : goal.returns
returns c = λ yes. all_small c.args.rank.now (λ i h. c.loop-count.invariant i (omega (arith, h)))
