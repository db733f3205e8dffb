use Rattle.text.proofs.Writing.{WritesOn}
use Rattle.text.proofs.write_loop.put.Given as goal

abbrev pub invariant-writes : goal.invariant-writes
invariant-writes g l = WritesOn (g.W.Sink.taken l.fn.writer) (g.W.Sink.taken l.writer) l.bytes l.rest l._turn
