use Rattle.std.proofs.Common.{◌≡◌, take}
use Rattle.measures.proofs.measure.copy_of.Given as goal

abbrev pub invariant-loop-count : goal.invariant-loop-count
invariant-loop-count l = l.copy.items ≡ take l.count-index l.counts
