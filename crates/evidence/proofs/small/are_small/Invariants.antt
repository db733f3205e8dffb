use Rattle.std.proofs.Common.{◌<◌, ◌≤◌, ℕ, slice_index}
use Rattle.evidence.specs.declared.limits.TheConstants.{GREATEST_COUNT}
use Rattle.evidence.proofs.small.are_small.Given as goal

abbrev pub invariant-loop-count : goal.invariant-loop-count
invariant-loop-count l = (i : ℕ) → i < l.count-index → slice_index l.rank i ≤ GREATEST_COUNT
