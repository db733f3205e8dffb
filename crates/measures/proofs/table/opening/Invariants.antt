use Rattle.measures.proofs.Plain.{IsOpened}
use Rattle.measures.proofs.table.opening.Given as goal

abbrev pub invariant-loop-v : goal.invariant-loop-v
invariant-loop-v l = IsOpened l.game l.v l.rows
