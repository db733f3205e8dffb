use Rattle.std.proofs.Common.{◌≡◌, ◌<◌, ℕ, Some, slice_index}
use Rattle.evidence.specs.Evidence.{Descends, Entry, entry_at}
use Rattle.evidence.proofs.verify.are_below.Given as goal

abbrev pub invariant-loop-t : goal.invariant-loop-t
invariant-loop-t l = (i : ℕ) → i < l.t-index → (y : Entry) → entry_at l.evidence.evidence (slice_index l.targets i) ≡ Some y
    → Descends l.evidence.evidence.player l.evidence.game l.priority l.rank y.rank
