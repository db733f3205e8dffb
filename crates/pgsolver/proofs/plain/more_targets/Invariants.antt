-- the numbers so far
use Rattle.std.proofs.Common.{length}
use Rattle.pgsolver.specs.Plain.{AddsCommas}
use Rattle.pgsolver.proofs.plain.more_targets.Given as goal

abbrev pub invariant-loop-after : goal.invariant-loop-after
invariant-loop-after l = AddsCommas l.initial.targets.items l.targets.items l.bytes l.rest

abbrev pub decreases-loop-after : goal.decreases-loop-after
decreases-loop-after l = length l.rest
