use Rattle.std.proofs.Common.{◌≡◌, ◌%◌, ◌==◌, filter, length, max}
use Rattle.std.specs.List.{range_with_len}
use Rattle.workers.specs.Jobs.{Gave}
use Rattle.workers.specs.Turns.{AreTurns, Done, own_vertices}
use Rattle.workers.proofs.worker.first_turns.Given as goal

abbrev pub invariant-loop-v : goal.invariant-loop-v
invariant-loop-v g l = record {
  seat : g.B.Board.fits l.floor.board.now l.seat;
  turn : l.turn.game ≡ g.K.GameName.game;
  worker : l.tally.worker ≡ l.fn.tally.worker;
  turned : Done (g.B.Board.did l.floor.board.now l.fn.seat l.seat) (Gave l.fn.own l.own)
      (AreTurns g.K.GameName.game (g.M.Pending.was_pending l.floor.marks.now) (own_vertices l.v l.workers l.fn.tally.worker));
}
