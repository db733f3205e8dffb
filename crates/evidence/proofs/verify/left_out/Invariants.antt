use Rattle.std.proofs.Common.{◌<◌, ◌⊎◌, ℕ, IsTrue}
use Rattle.evidence.specs.Evidence.{has}
use Rattle.evidence.proofs.verify.left_out.Given as goal

abbrev pub invariant-loop-v : goal.invariant-loop-v
invariant-loop-v l = (u : ℕ) → u < l.v → IsTrue (has l.first.evidence u) ⊎ IsTrue (has l.second.evidence u)
