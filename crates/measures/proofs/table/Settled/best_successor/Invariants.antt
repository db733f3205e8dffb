use Rattle.measures.proofs.Common.{◌<◌, ℕ, slice_index, Reaches, value_at}
use Rattle.measures.proofs.table.Settled.best_successor.Given as goal

abbrev pub invariant-loop-k : goal.invariant-loop-k
invariant-loop-k l = (i : ℕ) → i < l.k → Reaches l.game l.priority (value_at l.self.values (slice_index l.successors i)) (value_at l.self.values l.v) → ⊥
