use Rattle.std.proofs.Common.{◌≡◌, ℕ, ◌<◌, List, length}
use Rattle.std.specs.List.{range_with_len}
use Rattle.measures.specs.Measure.{IsAtMost, Measure}
use Rattle.measures.specs.Progress.{LiesUnder, value_at}
use Rattle.tables.specs.Seats.{Did, IsSeatOf, board_game}
use Rattle.tables.specs.Turns.{reads}
use Rattle.tables.proofs.packed.PackedBoard.read_into.Given as goal

abbrev pub invariant-loop-v : goal.invariant-loop-v
invariant-loop-v l = record {
  seat : IsSeatOf l.self l.seat;
  game : l.table.game ≡ board_game l.self;
  kept : LiesUnder l.fn.table.values l.table.values;
  long : length l.table.values ≡ length (board_game l.self).vertices;
  read : (values : List Measure) × (length values ≡ l.v) × Did l.fn.seat l.seat (reads (range_with_len 0 l.v) values)
      × ((u : ℕ) → u < l.v → IsAtMost (value_at values u) (value_at l.table.values u));
}
