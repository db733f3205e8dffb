use Rattle.std.proofs.Common.{◌≡◌, ◌<◌, ◌≤◌, ℕ, false, length, slice_index_or}
use Rattle.liftcore.proofs.turn.clear.Given as goal

abbrev pub invariant-loop-place : goal.invariant-loop-place
invariant-loop-place l = record { room : l.places ≤ length l.marks; clear : (k : ℕ) → k < l.place → slice_index_or l.marks k false ≡ false }
