use Rattle.std.proofs.Common.{◌≡◌, ◌≤◌, ◌++◌, ◌-◌, length, replicate}
use Rattle.measures.proofs.measure.Measure.padded.Given as goal

abbrev pub invariant-loop : goal.invariant-loop
invariant-loop l = (l.counts.items ≡ l.fn.counts.items ++ replicate (l.counter - length l.fn.counts.items) 0) × (length l.fn.counts.items ≤ l.counter)
    × (l.counter ≤ l.width)
