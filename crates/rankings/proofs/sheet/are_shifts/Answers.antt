use Rattle.rankings.proofs.Shifts.{shifts_from}
use Rattle.rankings.proofs.sheet.are_shifts.Goals as goal

pub returns : goal.returns
returns c = λ yes. shifts_from c.args.shifts.now c.loop-shift.shift-index c.loop-shift.least c.loop-shift-test.false c.loop-shift.invariant.few
    c.loop-shift.invariant.low c.loop-shift.invariant.rising
