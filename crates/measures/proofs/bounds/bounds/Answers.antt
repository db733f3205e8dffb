use Rattle.measures.proofs.Common.{arith, refl, ◌-◌, count}
use Rattle.measures.proofs.Components.{map_odd_down}
use Rattle.game.proofs.Greatest.{greatest_limit}
use Rattle.measures.proofs.bounds.bounds.Goals as goal

pub loop-p-init : goal.loop-p-init
loop-p-init c = let limit = greatest_limit c.args.game.now c.known.ensures in record {
  rest = rw (c.new-bounds.ensures, c.greatest_priority-p.ensures) refl;
  few = rw (c.new-bounds.ensures, c.greatest_priority-p.ensures) (omega arith);
}

pub loop-p-preserved-then-p-eq0 : goal.loop-p-preserved-then-p-eq0
loop-p-preserved-then-p-eq0 c = record {
  rest = rw (c.push.ensures.items, c.count.ensures) (map_odd_down (count c.args.game.now) (c.loop-p.p - 1) c.loop-p.p c.loop-p.bounds.items _
      (omega arith) c.if-p-eq0.true c.loop-p.invariant.rest);
  few = let n = c.push.ensures.len in let old = c.loop-p.invariant.few in omega arith;
}
