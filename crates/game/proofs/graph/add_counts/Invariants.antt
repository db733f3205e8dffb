use Rattle.game.proofs.Common.{◌≡◌, ◌+◌, ◌<◌, ◌≤◌, ℕ, slice_index}
use Rattle.game.proofs.graph.add_counts.Given as goal

abbrev pub invariant-loop-priority : goal.invariant-loop-priority
invariant-loop-priority l = record {
  done : (p : ℕ) → p < l.priority → slice_index l.counts p ≡ slice_index l.initial.counts p + slice_index l.others p;
  left : (p : ℕ) → l.priority ≤ p → p ≤ 32 → slice_index l.counts p ≡ slice_index l.initial.counts p;
}
