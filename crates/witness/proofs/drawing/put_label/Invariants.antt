use Rattle.std.proofs.Common.{drop}
use Rattle.text.proofs.Writing.{HasWritten}
use Rattle.witness.specs.Drawing.{escaped}
use Rattle.witness.proofs.drawing.put_label.Given as goal

abbrev pub invariant-loop-byte : goal.invariant-loop-byte
invariant-loop-byte g l = HasWritten (g.W.Sink.taken l.initial.out) (g.W.Sink.taken l.out) (escaped l.bytes) (escaped (drop l.byte-index l.bytes))
