use Rattle.text.proofs.Writing.{HasWritten}
use Rattle.liftcore.proofs.Written.{lines_from}
use Rattle.liftcore.proofs.writer.put_values.Given as goal

abbrev pub invariant-loop-v : goal.invariant-loop-v
invariant-loop-v g l = HasWritten (g.W.Sink.taken l.initial.writer) (g.W.Sink.taken l.writer) (lines_from l.core.table.values 0)
    (lines_from l.core.table.values l.v)
