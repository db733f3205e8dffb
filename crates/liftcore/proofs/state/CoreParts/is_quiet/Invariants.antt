use Rattle.std.proofs.Common.{◌≡◌, map, take, true}
use Rattle.std.specs.List.{list_all}
use Rattle.liftcore.specs.Core.{is_idle}
use Rattle.liftcore.specs.Seats.{worker_of}
use Rattle.liftcore.proofs.state.CoreParts.is_quiet.Given as goal

abbrev pub invariant-loop-seat : goal.invariant-loop-seat
invariant-loop-seat l = list_all is_idle (map worker_of (take l.seat-index l.self.seats.items)) ≡ true
