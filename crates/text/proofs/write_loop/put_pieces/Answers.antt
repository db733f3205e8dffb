use Rattle.std.proofs.Common.{subst}
use Rattle.text.proofs.Writing.{HasWritten, HasWritten-more, HasWritten-stops, HasWritten-all, Wrote-err}
use Rattle.text.proofs.Piecewise.{piece_next, pieces_none}
use Rattle.text.proofs.write_loop.put_pieces.Goals as goal

pub returns-in_err-put_piece : goal.returns-in_err-put_piece
returns-in_err-put_piece g c =
    let so_far = subst (HasWritten _ _ _) (piece_next c.args.pieces.now c.loop-piece.piece-index _ c.loop-piece-test.true) c.loop-piece.invariant in
    Wrote-err _ _ _ _ c.from_residual.ensures.0 (HasWritten-stops _ _ _ _ _ _ so_far c.in_err-put_piece.ensures)

pub loop-piece-preserved : goal.loop-piece-preserved
loop-piece-preserved g c =
    let so_far = subst (HasWritten _ _ _) (piece_next c.args.pieces.now c.loop-piece.piece-index _ c.loop-piece-test.true) c.loop-piece.invariant in
    HasWritten-more _ _ _ _ _ _ so_far c.in_ok-put_piece.ensures

pub returns : goal.returns
returns g c = HasWritten-all _ _ _ (subst (HasWritten _ _ _)
    (pieces_none c.args.pieces.now c.loop-piece.piece-index c.loop-piece-test.false) c.loop-piece.invariant)
