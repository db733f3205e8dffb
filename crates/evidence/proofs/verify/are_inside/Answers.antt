use Rattle.std.proofs.Common.{IsTrue, arith, refl}
use Rattle.measures.proofs.Places.{contained_from}
use Rattle.evidence.specs.Evidence.{has}
use Rattle.evidence.proofs.verify.are_inside.Goals as goal

pub returns : goal.returns
returns c = (
  (λ yes. contained_from (λ t. IsTrue (has c.args.evidence.now.evidence t)) c.args.targets.now c.loop-t.t-index (omega arith) c.loop-t.invariant),
  (λ all. refl),
)
