use Rattle.text.proofs.Writing.{HasWritten}
use Rattle.std.proofs.Common.{true}
use Rattle.liftcore.proofs.Written.{left, marked_from}
use Rattle.liftcore.proofs.writer.put_members.Given as goal

abbrev pub invariant-loop-v : goal.invariant-loop-v
invariant-loop-v g l = HasWritten (g.W.Sink.taken l.initial.writer) (g.W.Sink.taken l.writer) (left true (marked_from l.marks 0))
    (left l.first (marked_from l.marks l.v))
