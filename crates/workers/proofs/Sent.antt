-- What crosses to a worker's thread.
use denote.Param.Send.{IsSend, sendable}
use Rattle.std.proofs.Crossing.{crosses}
use Rattle.measures.specs.contracts.measure.Measure as Measure
use Rattle.liftcore.specs.contracts.turn.Turn as Turn

measure_send : IsSend Measure.the_row
measure_send = search (sendable, crosses) depth 40

pub turn_send : IsSend Turn.the_row
turn_send = search (sendable, crosses, measure_send) depth 40
