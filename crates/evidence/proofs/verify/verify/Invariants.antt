use Rattle.std.proofs.Common.{◌<◌, ℕ}
use Rattle.evidence.specs.Evidence.{IsFreeAt}
use Rattle.evidence.specs.declared.verdict.Fault.{Fault}
use Rattle.evidence.proofs.verify.verify.Given as goal

abbrev pub invariant-loop-v : goal.invariant-loop-v
invariant-loop-v l = (t : ℕ) (other : Fault) → t < l.v → IsFreeAt l.game l.evidence.evidence t other
