use Rattle.measures.proofs.Numbers.{IsReadTo}
use Rattle.measures.proofs.rank.number_of.Given as goal

abbrev pub invariant-loop-k : goal.invariant-loop-k
invariant-loop-k l = IsReadTo l.bounds l.counts l.k l.number
