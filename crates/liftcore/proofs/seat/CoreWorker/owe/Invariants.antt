use Rattle.std.proofs.Common.{◌≡◌, ◌<◌, false, length, take}
use Rattle.std.specs.List.{AllByRecursion}
use Rattle.liftcore.specs.Seats.{IsSeat}
use Rattle.liftcore.specs.Work.{AreOwed}
use Rattle.liftcore.proofs.seat.CoreWorker.owe.Given as goal

abbrev pub invariant-loop-v : goal.invariant-loop-v
invariant-loop-v l = record {
  seat : IsSeat l.game l.self;
  holding : l.self.holding ≡ false;
  owed : AreOwed (take l.v-index l.vertices) l.self.owed;
  within : AllByRecursion (λ t. t < length l.game.vertices) l.vertices;
}
