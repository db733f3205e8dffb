use Rattle.workers.proofs.team.raise_lost.Given as goal

abbrev pub invariant-loop-v : goal.invariant-loop-v
invariant-loop-v g l = g.B.Board.fits l.board l.seat
