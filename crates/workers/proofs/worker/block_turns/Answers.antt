use Rattle.std.proofs.Common.{◌++◌, ◌∷◌, [], refl}
use Rattle.workers.proofs.Giving.{gave_both, gave_none}
use Rattle.workers.proofs.Turning.{turns_next}
use Rattle.workers.proofs.worker.block_turns.Goals as goal
use Rattle.workers.proofs.worker.block_turns.Goals.{else-is_set-via-then-is_set+else-not-turn_at, else-is_set-via-else-is_set}

pub loop-v-init : goal.loop-v-init
loop-v-init g c = record {
  seat = c.requires.seat;
  turn = c.requires.turn;
  turned = ([], [], g.met.B.Board.idle c.args.floor.now.board.now c.args.seat.now, gave_none c.args.own.now, ([], (refl, refl)));
}

pub loop-v-preserved : goal.loop-v-preserved
loop-v-preserved g c =
    let game = g.K.GameName.game in
    let was_pending = g.M.Pending.was_pending c.args.floor.now.marks.now in
    let was = c.loop-v.invariant.turned in
    elim c.else-is_set.branch [
      | else-is_set-via-then-is_set+else-not-turn_at w ↦
          let now = w.turn_at.ensures.turned w.if-not-turn_at.false in
          rw (w.own-is, w.seat-is, w.turn-is) (record {
            seat = w.turn_at.ensures.seat;
            turn = w.turn_at.ensures.turn;
            turned = (
              was.0 ++ now.0,
              was.1 ++ now.1,
              g.met.B.Board.chained c.args.floor.now.board.now c.args.seat.now c.loop-v.seat w.turn_at.new.seat was.0 now.0 was.2 now.2,
              gave_both c.args.own.now c.loop-v.own w.turn_at.new.own was.1 now.1 was.3 now.3,
              (was.4.0 ++ c.loop-v.v ∷ [], turns_next game was_pending was.4.0 c.loop-v.v was.0 now.0 was.1 now.1 was.4.1 now.4),
            );
          })
      | else-is_set-via-else-is_set w ↦ rw (w.own-is, w.seat-is, w.turn-is) c.loop-v.invariant
    ]
