use Rattle.std.proofs.Common.{ℕ, ◌<◌, ◌≤◌, length}
use Rattle.measures.specs.Progress.{IsOverLift, LiesUnder, value_at}
use Rattle.tables.specs.Seats.{IsSeatOf, board_game, seen}
use Rattle.tables.proofs.packed.PackedBoard.lift_all.Given as goal

abbrev pub invariant-loop-v : goal.invariant-loop-v
invariant-loop-v l = record {
  seat : IsSeatOf l.self l.seat;
  kept : LiesUnder (seen l.fn.seat) (seen l.seat);
  lifted : (w : ℕ) → l.v ≤ w → w < length (board_game l.self).vertices → IsOverLift (board_game l.self) (seen l.fn.seat) w (value_at (seen l.seat) w);
}
