use Rattle.std.proofs.Common.{drop}
use Rattle.text.proofs.Writing.{HasWritten}
use Rattle.systems.specs.Label.{texts}
use Rattle.calculus.specs.Canon.{barred}
use Rattle.calculus.proofs.printer.put_barred.Given as goal

abbrev pub invariant-loop-name : goal.invariant-loop-name
invariant-loop-name g l = HasWritten (g.W.Sink.taken l.initial.writer) (g.W.Sink.taken l.writer) (barred (texts l.names))
    (barred (texts (drop l.name-index l.names)))
