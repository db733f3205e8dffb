use Rattle.tables.specs.Seats.{IsSeatOf}
use Rattle.suite_solving.proofs.boards.lifts_or_looks.Given as goal

abbrev pub invariant-loop : goal.invariant-loop
invariant-loop l = IsSeatOf l.board l.seat
