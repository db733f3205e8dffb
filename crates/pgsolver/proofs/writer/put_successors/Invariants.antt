use Rattle.std.proofs.Common.{drop}
use Rattle.text.proofs.Writing.{HasWritten}
use Rattle.pgsolver.specs.Canon.{successors_text}
use Rattle.pgsolver.proofs.Lines.{numbers_from}
use Rattle.pgsolver.proofs.writer.put_successors.Given as goal

abbrev pub invariant-loop-successor : goal.invariant-loop-successor
invariant-loop-successor g l =
    HasWritten (g.W.Sink.taken l.initial.out) (g.W.Sink.taken l.out) (successors_text l.successors)
    (numbers_from l.before (drop l.successor-index l.successors))
