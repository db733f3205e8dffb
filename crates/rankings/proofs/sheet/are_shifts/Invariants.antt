use Rattle.std.proofs.Common.{◌<◌, ◌≤◌, ℕ, slice_index}
use Rattle.rankings.proofs.sheet.are_shifts.Given as goal

abbrev pub invariant-loop-shift : goal.invariant-loop-shift
invariant-loop-shift l = record {
  few : l.least ≤ 63;
  low : (i : ℕ) → i < l.shift-index → slice_index l.shifts i ≤ l.least;
  rising : (i j : ℕ) → i ≤ j → j < l.shift-index → slice_index l.shifts i ≤ slice_index l.shifts j;
}
