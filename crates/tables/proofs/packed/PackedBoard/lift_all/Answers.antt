use Rattle.std.proofs.Common.{ℕ, ◌≡◌, ◌≤◌, ◌-◌, ap, ◌∙◌, arith, inl, inr, length, subst, sym}
use Rattle.std.proofs.lemmas.Bool.Decides.{eqb_tells}
use Rattle.game.specs.Game.{Game}
use Rattle.measures.specs.Progress.{IsOverLift, value_at}
use Rattle.measures.proofs.Measures.{at_most_trans}
use Rattle.measures.proofs.Rising.{under_itself, under_trans}
use Rattle.measures.proofs.Rounds.{over_lesser}
use Rattle.measures.proofs.Settling.{plain_table}
use Rattle.tables.specs.Seats.{board_game, seen}
use Rattle.tables.proofs.packed.PackedBoard.lift_all.Goals as goal

pub loop-v-init : goal.loop-v-init
loop-v-init c =
    let size : c.vertices-v.result ≡ length (board_game c.args.self.now).vertices = c.vertices-v.ensures
    ∙ ap (λ (h : Game). length h.vertices) c.deref.ensures in record {
      seat = c.requires;
      kept = under_itself (seen c.args.seat.now);
      lifted = λ w l m. absurd (omega (arith, l, m, size));
    }

pub loop-v-preserved : goal.loop-v-preserved
loop-v-preserved c =
    let g = board_game c.args.self.now in
    let first = seen c.args.seat.now in
    let was = seen c.loop-v.seat in
    let now = seen c.lift.new.seat in
    let inv = c.loop-v.invariant in
    let v = c.loop-v.v - 1 in
    let here : IsOverLift g first v (value_at now v) = over_lesser g first was v (value_at now v) inv.seat.plain.game
    (plain_table g was inv.seat.plain) inv.kept c.lift.ensures.lifted in record {
      seat = c.lift.ensures.seat;
      kept = under_trans first was now inv.kept c.lift.ensures.kept;
      lifted = λ w l m. elim (eqb_tells w v) [
        | inl e ↦ subst (λ (u : ℕ). IsOverLift g first u (value_at now u)) (sym e.1) here
        | inr n ↦ (let d = n.1 in let later : c.loop-v.v ≤ w = omega (arith, l, d)
            in λ r lift. at_most_trans r (value_at was w) (value_at now w) (inv.lifted w later m r lift) (c.lift.ensures.kept w))
      ];
    }

pub returns-clause-lifted : goal.returns-clause-lifted
returns-clause-lifted c = λ w m. let end = c.loop-v-test.false in c.loop-v.invariant.lifted w (omega (arith, end)) m
