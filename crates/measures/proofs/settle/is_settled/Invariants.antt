use Rattle.measures.proofs.Common.{◌<◌, ℕ, IsStill}
use Rattle.measures.proofs.settle.is_settled.Given as goal

abbrev pub invariant-loop-v : goal.invariant-loop-v
invariant-loop-v l = (u : ℕ) → u < l.v → IsStill l.game l.table.values u
