use Rattle.std.proofs.Common.{◌≡◌, ◌≤◌, ◌*◌}
use Rattle.measures.specs.Lifting.{rank, total}
use Rattle.measures.specs.Progress.{LiesUnder, value_at}
use Rattle.tables.specs.Seats.{IsSeatOf, board_game, seen}
use Rattle.tables.proofs.packed.PackedBoard.look.Given as goal

abbrev pub invariant-loop-v : goal.invariant-loop-v
invariant-loop-v l = record {
  seat : IsSeatOf l.self l.seat;
  kept : LiesUnder (seen l.fn.seat) (seen l.seat);
  sum : l.sum ≡ total (λ u. rank (board_game l.self) (value_at (seen l.seat) u)) l.v;
  small : l.sum ≤ l.v * 4611686018427387904;
}
