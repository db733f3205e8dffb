use Rattle.liftcore.proofs.Seated.{marked_owes, owes_marked}
use Rattle.liftcore.proofs.seat.CoreWorker.owes.Goals as goal

pub returns-then-not-self : goal.returns-then-not-self
returns-then-not-self c = (
  λ t. owes_marked c.args.self.now c.args.v c.if-not-self.true (c.has.ensures.0 t),
  λ o. c.has.ensures.1 (marked_owes c.args.self.now c.args.v o).1,
)
