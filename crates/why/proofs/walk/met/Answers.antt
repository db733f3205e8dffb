use Rattle.std.proofs.Common.{arith}
use Rattle.why.proofs.Walking.{met_told}
use Rattle.why.proofs.walk.met.Goals as goal

pub returns-clause-kind : goal.returns-clause-kind
returns-clause-kind c = λ lts ns g e root next is.
    met_told lts ns g e root c.args.walk.now next c.args.u is c.requires.told (λ j v low high at. c.loop-i.invariant j v low (omega (arith, high)) at)
