use Rattle.std.proofs.Common.{arith, sym}
use Rattle.why.proofs.Lines.{none_from}
use Rattle.why.proofs.writer.steps_from.Goals as goal

pub returns-else-state-states-clause-arrows : goal.returns-else-state-states-clause-arrows
returns-else-state-states-clause-arrows c =
    let l = c.args.system.now.system in
    let count = c.states.ensures.count in
    let far = c.if-state-states.false in
    sym (none_from l.states c.args.state l.arrows c.states.ensures.known.arrows (omega (arith, count, far)))
