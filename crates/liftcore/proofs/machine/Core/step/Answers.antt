use Rattle.liftcore.specs.Seats.{core_of}
use Rattle.liftcore.proofs.Reached.{reached_more}
use Rattle.liftcore.proofs.machine.Core.step.Goals as goal

pub invariant_of-self : goal.invariant_of-self
invariant_of-self c = (
  c.step.ensures.state,
  reached_more (core_of c.self.inside.state)
      (core_of c.step.new.self) c.args.event c.step.result c.self.invariant.1 c.step.ensures.step,
)
