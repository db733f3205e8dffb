use Rattle.std.proofs.Common.{◌≡◌, IsTrue, false, length, max}
use Rattle.workers.specs.Jobs.{Gave, IsFilled}
use Rattle.workers.specs.Turns.{HasWorked, own_vertices}
use Rattle.workers.proofs.worker.take_turns.Given as goal

abbrev pub invariant-loop : goal.invariant-loop
invariant-loop g l = record {
  seat : g.B.Board.fits l.floor.board.now l.seat;
  turn : l.turn.game ≡ g.K.GameName.game;
  worked : IsTrue l.able → HasWorked g.K.GameName.game (g.M.Pending.was_pending l.floor.marks.now)
      (own_vertices (length g.K.GameName.game.vertices) (max (length l.floor.others.now) 1) l.fn.tally.worker)
      (g.B.Board.did l.floor.board.now l.fn.seat l.seat) (Gave l.fn.own l.own);
  stopped : l.able ≡ false → IsFilled l.fn.own l.own;
}
