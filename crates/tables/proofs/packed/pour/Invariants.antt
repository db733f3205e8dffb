use Rattle.std.proofs.Common.{ℕ, ◌≡◌, ◌<◌, slice_index}
use Rattle.std.specs.Mem.Slots.{slots_items}
use Rattle.measures.specs.Lifting.{of_rank}
use Rattle.measures.specs.Measure.{IsAtMost}
use Rattle.measures.specs.Progress.{LiesUnder, value_at}
use Rattle.tables.proofs.packed.pour.Given as goal

abbrev pub invariant-loop-v : goal.invariant-loop-v
invariant-loop-v l = record {
  game : l.table.game ≡ l.game;
  kept : LiesUnder l.fn.table.values l.table.values;
  poured : (w : ℕ) → w < l.v → IsAtMost (of_rank l.game (slice_index (slots_items l.closed.words) w)) (value_at l.table.values w);
}
