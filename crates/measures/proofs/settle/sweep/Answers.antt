use Rattle.std.proofs.Common.{◌-◌, arith}
use Rattle.measures.proofs.Settling.{move_plain, sum_limit, swept_still, swept_whole}
use Rattle.measures.proofs.settle.sweep.Goals as goal

pub loop-v-preserved : goal.loop-v-preserved
loop-v-preserved c =
    let lifts = c.if-lift_at.ensures.lifts in
    record {
      game = c.lift_at.ensures.game;
      swept = swept_still c.args.game.now c.loop-v.v
          (c.loop-v.v - 1) c.args.table.now.values c.loop-v.table.values c.lift_at.new.self.values c.loop-v.rose c.loop-v.invariant.swept
          (omega arith) lifts.0 lifts.1;
    }

pub returns-clause-sweeps : goal.returns-clause-sweeps
returns-clause-sweeps c =
    let game = c.args.game.now in
    let new = c.loop-v.table in
    swept_whole game c.loop-v.v c.args.table.now.values new.values c.loop-v.rose
    (move_plain game new c.known.ensures c.loop-v.invariant.game) c.loop-v.invariant.swept (omega arith)

pub returns-clause-limit : goal.returns-clause-limit
returns-clause-limit c = let game = c.args.game.now in sum_limit game c.loop-v.table.values
    (move_plain game c.loop-v.table c.known.ensures c.loop-v.invariant.game)
