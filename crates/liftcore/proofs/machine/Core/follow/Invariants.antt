use Rattle.std.proofs.Common.{◌≡◌, ◌+◌, take}
use Rattle.liftcore.specs.Runs.{Comes}
use Rattle.liftcore.proofs.machine.Core.follow.Given as goal

abbrev pub invariant-loop-event : goal.invariant-loop-event
invariant-loop-event l = record { comes : Comes l.fn.self (take l.event-index l.events) l.done l.skipped l.self; all : l.done + l.skipped ≡ l.event-index }
