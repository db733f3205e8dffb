use Rattle.std.proofs.Common.{◌≡◌, arith}
use Rattle.measures.specs.Lifting.{sum_of}
use Rattle.measures.specs.Progress.{LiesUnder, value_at}
use Rattle.measures.proofs.Measures.{at_most_trans}
use Rattle.measures.proofs.Rising.{under_trans}
use Rattle.measures.proofs.Rounds.{rounds_least, sum_under}
use Rattle.measures.proofs.Settling.{plain_table, sum_limit}
use Rattle.tables.specs.Seats.{board_game, seen}
use Rattle.tables.proofs.packed.PackedBoard.settle_seat.Goals as goal

pub loop-sum-init : goal.loop-sum-init
loop-sum-init c = record { seat = c.look-sum.ensures.seat; kept = c.look-sum.ensures.kept; sum = c.look-sum.ensures.sum }

pub loop-sum-preserved : goal.loop-sum-preserved
loop-sum-preserved c =
    let first = seen c.args.seat.now in
    let old = seen c.loop-sum.seat in
    let new = seen c.look-next.new.seat in
    let up : LiesUnder old new = under_trans old (seen c.lift_all.new.seat) new c.lift_all.ensures.kept c.look-next.ensures.kept in record {
      seat = c.look-next.ensures.seat;
      kept = under_trans first old new c.loop-sum.invariant.kept up;
      sum = c.look-next.ensures.sum;
    }

pub loop-sum-smaller : goal.loop-sum-smaller
loop-sum-smaller c =
    let g = board_game c.args.self.now in
    let old = seen c.loop-sum.seat in
    let new = seen c.look-next.new.seat in
    let inv = c.loop-sum.invariant in
    let up : LiesUnder old new = under_trans old (seen c.lift_all.new.seat) new c.lift_all.ensures.kept c.look-next.ensures.kept in
    let rise = sum_under g old new (plain_table g old inv.seat.plain) (plain_table g new c.look-next.ensures.seat.plain) up in
    let most = sum_limit g new c.look-next.ensures.seat.plain in
    let before = inv.sum in
    let after = c.look-next.ensures.sum in
    let differs = c.if-next-sum.false in
    omega (arith, rise, most, before, after, differs)

pub returns-then-next-sum-clause-kept : goal.returns-then-next-sum-clause-kept
returns-then-next-sum-clause-kept c =
    let first = seen c.args.seat.now in
    let old = seen c.loop-sum.seat in
    let new = seen c.look-next.new.seat in
    under_trans first old new c.loop-sum.invariant.kept (under_trans old (seen c.lift_all.new.seat) new c.lift_all.ensures.kept c.look-next.ensures.kept)

pub returns-then-next-sum-clause-least : goal.returns-then-next-sum-clause-least
returns-then-next-sum-clause-least c =
    let g = board_game c.args.self.now in
    let old = seen c.loop-sum.seat in
    let mid = seen c.lift_all.new.seat in
    let new = seen c.look-next.new.seat in
    let inv = c.loop-sum.invariant in
    let up : LiesUnder old new = under_trans old mid new c.lift_all.ensures.kept c.look-next.ensures.kept in
    let same : sum_of g new ≡ sum_of g old = let before = inv.sum in let after = c.look-next.ensures.sum in let equal = c.if-next-sum.true
    in omega (arith, before, after, equal) in
    rounds_least g old new inv.seat.plain c.look-next.ensures.seat.plain up same
    (λ v h r lift. at_most_trans r (value_at mid v) (value_at new v) (c.lift_all.ensures.lifted v h r lift) (c.look-next.ensures.kept v))
