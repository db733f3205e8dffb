use Rattle.std.proofs.Common.{ℕ, ◌≡◌, ◌<◌, length, slice_index}
use Rattle.tables.specs.Packed.{IsOpeningRank}
use Rattle.tables.proofs.packed.opening_ranks.Given as goal

abbrev pub invariant-loop-v : goal.invariant-loop-v
invariant-loop-v l = record {
  long : length l.ranks.items ≡ l.v;
  are : (u : ℕ) → u < l.v → IsOpeningRank l.game u (slice_index l.ranks.items u);
}
