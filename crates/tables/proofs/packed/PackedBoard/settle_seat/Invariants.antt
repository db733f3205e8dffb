use Rattle.std.proofs.Common.{◌≡◌, ◌-◌, ◌*◌, length}
use Rattle.measures.specs.Lifting.{height, sum_of}
use Rattle.measures.specs.Progress.{LiesUnder}
use Rattle.tables.specs.Seats.{IsSeatOf, board_game, seen}
use Rattle.tables.proofs.packed.PackedBoard.settle_seat.Given as goal

abbrev pub invariant-loop-sum : goal.invariant-loop-sum
invariant-loop-sum l = record {
  seat : IsSeatOf l.self l.seat;
  kept : LiesUnder (seen l.fn.seat) (seen l.seat);
  sum : l.sum ≡ sum_of (board_game l.self) (seen l.seat);
}

abbrev pub decreases-loop-sum : goal.decreases-loop-sum
decreases-loop-sum l = length (board_game l.self).vertices * height (board_game l.self) - l.sum
