use Rattle.liftcore.specs.Seats.{AreIdle}
use Rattle.liftcore.proofs.state.idle_seats.Given as goal

abbrev pub invariant-loop : goal.invariant-loop
invariant-loop l = AreIdle l.game l.counter l.seats.items
