use Rattle.std.proofs.Common.{◌≡◌, map}
use Rattle.std.specs.List.{range_with_len}
use Rattle.commands.specs.Ranking.{counted_at}
use Rattle.commands.proofs.label_counts.numbered.Given as goal

abbrev pub invariant-loop-number : goal.invariant-loop-number
invariant-loop-number l = l.counted.items ≡ map (counted_at l.counts) (range_with_len 0 l.number)
