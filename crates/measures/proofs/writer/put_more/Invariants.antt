use Rattle.std.proofs.Common.{drop}
use Rattle.std.specs.List.{flat_map}
use Rattle.text.proofs.Writing.{HasWritten}
use Rattle.measures.proofs.Joined.{more}
use Rattle.measures.proofs.writer.put_more.Given as goal

abbrev pub invariant-loop-count : goal.invariant-loop-count
invariant-loop-count g l = HasWritten (g.W.Sink.taken l.initial.writer) (g.W.Sink.taken l.writer) (flat_map more l.counts)
    (flat_map more (drop l.count-index l.counts))
