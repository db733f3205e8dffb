use Rattle.std.proofs.Common.{drop}
use Rattle.text.specs.Pieces.{pieces_text}
use Rattle.text.proofs.Writing.{HasWritten}
use Rattle.text.proofs.write_loop.put_pieces.Given as goal

abbrev pub invariant-loop-piece : goal.invariant-loop-piece
invariant-loop-piece g l = HasWritten (g.W.Sink.taken l.initial.writer) (g.W.Sink.taken l.writer) (pieces_text l.pieces)
    (pieces_text (drop l.piece-index l.pieces))
