use Rattle.std.proofs.Common.{ℕ, ◌++◌, [], List, append_assoc, arith, inl, inr, length, max, subst, sym}
use Rattle.std.proofs.lemmas.List.{append-nil}
use Rattle.workers.specs.Jobs.{Gave}
use Rattle.workers.specs.Turns.{AreTurns, own_vertices}
use Rattle.workers.proofs.Giving.{gave_both}
use Rattle.workers.proofs.Turning.{turns_both}
use Rattle.workers.proofs.worker.take_turns.Goals as goal

pub loop-init : goal.loop-init
loop-init g c =
    let game = g.K.GameName.game in
    let own = own_vertices (length game.vertices) (max (length c.args.floor.now.others.now) 1) c.args.tally.now.worker in record {
      seat = c.first_turns-able.ensures.seat;
      turn = c.first_turns-able.ensures.turn;
      worked = λ yes.
          let was = c.first_turns-able.ensures.turned yes in (
            was.0,
            was.1,
            was.2,
            was.3,
            (
              [],
              subst (λ (vs : List ℕ). AreTurns game (g.M.Pending.was_pending c.args.floor.now.marks.now) vs was.0 was.1) (sym (append-nil own)) was.4,
            ),
          );
      stopped = c.first_turns-able.ensures.stopped;
    }

pub loop-preserved : goal.loop-preserved
loop-preserved g c =
    let game = g.K.GameName.game in
    let was_pending = g.M.Pending.was_pending c.args.floor.now.marks.now in
    let own = own_vertices (length game.vertices) (max (length c.args.floor.now.others.now) 1) c.args.tally.now.worker in
    let was = c.loop.invariant.worked c.if-not-able.false in record {
      seat = c.block_turns-able.ensures.seat;
      turn = c.block_turns-able.ensures.turn;
      worked = λ yes.
          let now = c.block_turns-able.ensures.turned yes in (
            was.0 ++ now.0,
            was.1 ++ now.1,
            g.met.B.Board.chained c.args.floor.now.board.now c.args.seat.now c.loop.seat c.block_turns-able.new.seat was.0 now.0 was.2 now.2,
            gave_both c.args.own.now c.loop.own c.block_turns-able.new.own was.1 now.1 was.3
                (gave_both c.loop.own c.next_job.new.own c.block_turns-able.new.own [] now.1 c.next_job.ensures.kept now.3),
            (
              was.4.0 ++ now.4.0,
              subst (λ (vs : List ℕ). AreTurns game was_pending vs (was.0 ++ now.0) (was.1 ++ now.1)) (append_assoc own was.4.0 now.4.0)
                  (turns_both game was_pending (own ++ was.4.0) now.4.0 was.0 now.0 was.1 now.1 was.4.1 now.4.1),
            ),
          );
      stopped = λ no.
          let filled = c.block_turns-able.ensures.stopped no in let room = was.3.1 in let kept = c.next_job.ensures.kept.1 in omega (arith, filled, room, kept);
    }

pub returns-then-not-able-clause-turned : goal.returns-then-not-able-clause-turned
returns-then-not-able-clause-turned g c = inl (c.loop.invariant.stopped c.if-not-able.true)

pub returns-in_default-clause-turned : goal.returns-in_default-clause-turned
returns-in_default-clause-turned g c =
    let was = c.loop.invariant.worked c.if-not-able.false in
    inr (
      was.0,
      was.1,
      was.2,
      subst (Gave c.args.own.now c.next_job.new.own) (append-nil was.1)
          (gave_both c.args.own.now c.loop.own c.next_job.new.own was.1 [] was.3 c.next_job.ensures.kept),
      was.4,
    )
