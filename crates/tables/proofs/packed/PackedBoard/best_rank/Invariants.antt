use Rattle.std.proofs.Common.{◌≡◌, Some}
use Rattle.game.specs.Game.{Vertex, vertex}
use Rattle.measures.specs.Progress.{LiesUnder}
use Rattle.measures.proofs.Gathering.{IsGathered}
use Rattle.tables.specs.Seats.{IsSeatOf, board_game, done, seen}
use Rattle.tables.proofs.Asking.{HasAsked}
use Rattle.tables.proofs.packed.PackedBoard.best_rank.Given as goal

abbrev pub invariant-loop-t : goal.invariant-loop-t
invariant-loop-t l = record {
  seat : IsSeatOf l.self l.seat;
  kept : LiesUnder (seen l.fn.seat) (seen l.seat);
  gathered : (x : Vertex) → vertex (board_game l.self) l.v ≡ Some x
      → IsGathered l.owner (board_game l.self) x.priority l.t-items l.t-index (seen l.fn.seat) l.best;
  asked : (x : Vertex) → vertex (board_game l.self) l.v ≡ Some x
      → HasAsked l.owner (board_game l.self) x.priority l.t-items l.t-index (done l.fn.seat) (done l.seat) l.best;
}
