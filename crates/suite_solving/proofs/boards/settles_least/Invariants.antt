use Rattle.tables.specs.Seats.{IsSeatOf}
use Rattle.suite_solving.proofs.boards.settles_least.Given as goal

abbrev pub invariant-loop-v : goal.invariant-loop-v
invariant-loop-v l = IsSeatOf l.board l.seat
