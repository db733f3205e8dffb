use Rattle.std.proofs.Common.{ap₂}
use Rattle.liftcore.specs.Core.{Holding}
use Rattle.liftcore.specs.Reading.{successors_read}
use Rattle.liftcore.proofs.Seated.{nothing_noted}
use Rattle.liftcore.proofs.seat.CoreWorker.take.Goals as goal

pub returns-clause-holds : goal.returns-clause-holds
returns-clause-holds c = ap₂ Holding c.begin.ensures.vertex (nothing_noted
    (successors_read c.begin.new.self) c.begin.new.self.marks c.begin.new.self.values c.begin.ensures.unread)
