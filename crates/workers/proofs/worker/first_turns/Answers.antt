use Rattle.std.proofs.Common.{ℕ, ◌≡◌, List, [], ◌∷◌, ◌++◌, ap, arith, length, max, refl, subst, sym, ◌∙◌}
use Rattle.game.specs.Game.{Game}
use Rattle.workers.specs.Turns.{AreTurns, own_vertices}
use Rattle.workers.proofs.Giving.{gave_both, gave_none}
use Rattle.workers.proofs.Turning.{own_more, own_same, turns_next}
use Rattle.workers.proofs.worker.first_turns.Goals as goal
use Rattle.workers.proofs.worker.first_turns.Goals.{else-v-workers-via-then-v-workers+else-not-turn_at, else-v-workers-via-else-v-workers}

pub loop-v-init : goal.loop-v-init
loop-v-init g c = record {
  seat = c.requires.seat;
  turn = c.requires.turn;
  worker = refl;
  turned = ([], [], g.met.B.Board.idle c.args.floor.now.board.now c.args.seat.now, gave_none c.args.own.now, (refl, refl));
}

pub loop-v-preserved : goal.loop-v-preserved
loop-v-preserved g c =
    let game = g.K.GameName.game in
    let was_pending = g.M.Pending.was_pending c.args.floor.now.marks.now in
    let number = c.args.tally.now.worker in
    let workers = c.max-workers.result in
    let v = c.loop-v.v in
    let inv = c.loop-v.invariant in
    let was = inv.turned in
    elim c.else-v-workers.branch [
      | else-v-workers-via-then-v-workers+else-not-turn_at w ↦
          let now = w.turn_at.ensures.turned w.if-not-turn_at.false in
          rw (w.own-is, w.seat-is, w.turn-is, w.tally-is) (record {
            seat = w.turn_at.ensures.seat;
            turn = w.turn_at.ensures.turn;
            worker = w.turn_at.ensures.worker ∙ inv.worker;
            turned = (
              was.0 ++ now.0,
              was.1 ++ now.1,
              g.met.B.Board.chained c.args.floor.now.board.now c.args.seat.now c.loop-v.seat w.turn_at.new.seat was.0 now.0 was.2 now.2,
              gave_both c.args.own.now c.loop-v.own w.turn_at.new.own was.1 now.1 was.3 now.3,
              subst (λ (vs : List ℕ). AreTurns game was_pending vs (was.0 ++ now.0) (was.1 ++ now.1))
                  (sym (own_more v workers number (w.if-v-workers.true ∙ inv.worker)))
                  (turns_next game was_pending (own_vertices v workers number) v was.0 now.0 was.1 now.1 was.4 now.4),
            );
          })
      | else-v-workers-via-else-v-workers w ↦ rw (w.own-is, w.seat-is, w.turn-is, w.tally-is) (record {
        seat = inv.seat;
        turn = inv.turn;
        worker = inv.worker;
        turned = (
          was.0,
          was.1,
          was.2,
          was.3,
          subst (λ (vs : List ℕ). AreTurns game was_pending vs was.0 was.1) (sym (own_same v workers number (λ e. w.if-v-workers.false (e ∙ sym inv.worker)))) was.4,
        );
      })
    ]

pub returns-clause-turned : goal.returns-clause-turned
returns-clause-turned g c = λ yes.
    let was = c.loop-v.invariant.turned in
    let vertices = length g.K.GameName.game.vertices in
    let size = c.vertices-v-end.ensures ∙ ap (λ (h : Game). length h.vertices) c.requires.one.0 in
    let end : c.loop-v.v ≡ vertices = let test = c.loop-v-test.false in let most = c.loop-v.auto.v-end in omega (arith, test, most, size) in
    let own : own_vertices c.loop-v.v c.max-workers.result c.args.tally.now.worker
    ≡ own_vertices vertices (max (length c.args.floor.now.others.now) 1) c.args.tally.now.worker =
    ap (λ (n : ℕ). own_vertices n c.max-workers.result c.args.tally.now.worker) end
    ∙ ap (λ (n : ℕ). own_vertices vertices n c.args.tally.now.worker) c.max-workers.ensures in (
      was.0,
      was.1,
      was.2,
      was.3,
      subst (λ (vs : List ℕ). AreTurns g.K.GameName.game (g.M.Pending.was_pending c.args.floor.now.marks.now) vs was.0 was.1) own was.4,
    )
