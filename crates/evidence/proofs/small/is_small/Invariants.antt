use Rattle.std.proofs.Common.{◌≡◌, ◌<◌, ◌≤◌, ℕ, Some}
use Rattle.std.specs.List.{AllByRecursion}
use Rattle.evidence.specs.Evidence.{Entry, entry_at}
use Rattle.evidence.specs.declared.limits.TheConstants.{GREATEST_COUNT}
use Rattle.evidence.proofs.small.is_small.Given as goal

abbrev pub invariant-loop-v : goal.invariant-loop-v
invariant-loop-v l = (u : ℕ) → u < l.v → (x : Entry) → entry_at l.evidence.evidence u ≡ Some x → AllByRecursion (λ k. k ≤ GREATEST_COUNT) x.rank
