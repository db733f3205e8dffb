-- the turns so far
use Rattle.std.proofs.Common.{◌≡◌}
use Rattle.workers.specs.Jobs.{Gave}
use Rattle.workers.specs.Turns.{AreSomeTurns, Done}
use Rattle.workers.proofs.worker.block_turns.Given as goal

abbrev pub invariant-loop-v : goal.invariant-loop-v
invariant-loop-v g l = record {
  seat : g.B.Board.fits l.floor.board.now l.seat;
  turn : l.turn.game ≡ g.K.GameName.game;
  turned : Done (g.B.Board.did l.floor.board.now l.fn.seat l.seat) (Gave l.fn.own l.own)
      (AreSomeTurns g.K.GameName.game (g.M.Pending.was_pending l.floor.marks.now));
}
