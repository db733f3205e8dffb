use Rattle.liftcore.specs.Seats.{core_of}
use Rattle.liftcore.proofs.Reached.{reached_start}
use Rattle.liftcore.proofs.machine.Core.new.Goals as goal

pub invariant_of-result : goal.invariant_of-result
invariant_of-result c = (c.in_ok-new.ensures.state, reached_start c.args.game.now c.args.workers (core_of c.in_ok-new.field-0) c.in_ok-new.ensures.start)
