use Rattle.std.proofs.Common.{ℕ, ◌≡◌, ◌<◌, ◌+◌, length, slice_index}
use Rattle.tables.specs.Weights.{weight}
use Rattle.tables.proofs.weights.weights.Given as goal

abbrev pub invariant-loop-half : goal.invariant-loop-half
invariant-loop-half l = record {
  heavy : l.weight ≡ weight l.game l.half;
  long : length l.weights.items ≡ l.half + 1;
  are : (half : ℕ) → half < l.half + 1 → slice_index l.weights.items half ≡ weight l.game half;
}
