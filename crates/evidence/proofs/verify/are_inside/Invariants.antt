use Rattle.std.proofs.Common.{◌<◌, ℕ, IsTrue, slice_index}
use Rattle.evidence.specs.Evidence.{has}
use Rattle.evidence.proofs.verify.are_inside.Given as goal

abbrev pub invariant-loop-t : goal.invariant-loop-t
invariant-loop-t l = (i : ℕ) → i < l.t-index → IsTrue (has l.evidence.evidence (slice_index l.targets i))
