use Rattle.std.proofs.Common.{◌≡◌, ◌≤◌, length, take}
use Rattle.game.specs.Game.{vertex}
use Rattle.game.specs.Predecessors.{successors_at}
use Rattle.liftcore.specs.Reading.{AreRead}
use Rattle.tables.specs.Turns.{reads}
use Rattle.workers.proofs.worker.lift.Given as goal

abbrev pub invariant-loop-place : goal.invariant-loop-place
invariant-loop-place g l = record {
  seat : g.B.Board.fits l.board l.seat;
  game : l.turn.game ≡ l.game;
  here : l.turn.vertex ≡ l.v;
  read : AreRead l.turn l.place;
  room : length (successors_at (vertex l.game l.v)) ≤ length l.turn.values;
  did : g.B.Board.did l.board l.fn.seat l.seat (reads (take l.place (successors_at (vertex l.game l.v))) (take l.place l.turn.values));
}
