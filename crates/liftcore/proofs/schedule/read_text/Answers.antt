use Rattle.text.proofs.PassedOn.{passed_on}
use Rattle.liftcore.specs.Taken.{TellsRead}
use Rattle.liftcore.specs.declared.error.ReadError.TheVariants.{Schedule}
use Rattle.liftcore.proofs.Taking.{all_events, all_tells, reads_all, reads_more, reads_tell}
use Rattle.liftcore.proofs.schedule.read_text.Goals as goal

pub returns-in_err-take_block-clause-fault : goal.returns-in_err-take_block-clause-fault
returns-in_err-take_block-clause-fault g c =
    let old = g.B.Read.remaining c.args.reader.now in
    passed_on c.from_residual.result c.in_err-take_block.field-0.0 (TellsRead old c.args.intake) c.from_residual.ensures.1
    (reads_tell old (g.B.Read.remaining c.loop.reader) c.args.intake c.loop.intake c.in_err-take_block.field-0.0 c.loop.invariant
    c.in_err-take_block.ensures.fault)

pub returns-in_err-finish-clause-fault : goal.returns-in_err-finish-clause-fault
returns-in_err-finish-clause-fault g c =
    let old = g.B.Read.remaining c.args.reader.now in
    let error = c.in_err-finish.field-0.0 in
    passed_on c.from_residual-in_err-finish.result (Schedule error) (TellsRead old c.args.intake) c.from_residual-in_err-finish.ensures.1
    (all_tells old c.args.intake c.take_block.new.intake error
    (reads_all old (g.B.Read.remaining c.loop.reader) (g.B.Read.remaining c.take_block.new.reader) c.args.intake c.loop.intake c.take_block.new.intake
    c.loop.invariant (rw c.if-not-branch.true at c.in_ok-take_block.ensures.taken)) c.in_err-finish.ensures.fault)

pub returns-then-not-branch-clause-events : goal.returns-then-not-branch-clause-events
returns-then-not-branch-clause-events g c =
    let old = g.B.Read.remaining c.args.reader.now in
    all_events old c.args.intake c.take_block.new.intake c.in_ok-finish.field-0.items
    (reads_all old (g.B.Read.remaining c.loop.reader) (g.B.Read.remaining c.take_block.new.reader) c.args.intake c.loop.intake c.take_block.new.intake
    c.loop.invariant (rw c.if-not-branch.true at c.in_ok-take_block.ensures.taken)) c.in_ok-finish.ensures.events

pub loop-preserved : goal.loop-preserved
loop-preserved g c =
    reads_more (g.B.Read.remaining c.args.reader.now) (g.B.Read.remaining c.loop.reader) (g.B.Read.remaining c.take_block.new.reader) c.args.intake
    c.loop.intake c.take_block.new.intake c.in_ok-take_block.field-0 c.loop.invariant c.in_ok-take_block.ensures.taken
