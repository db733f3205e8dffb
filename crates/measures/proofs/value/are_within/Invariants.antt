use Rattle.std.proofs.Common.{ℕ, ◌<◌, ◌≤◌, slice_index}
use Rattle.measures.specs.StoredProposal.{counts_in}
use Rattle.measures.proofs.value.are_within.Given as goal

abbrev pub invariant-loop-place : goal.invariant-loop-place
invariant-loop-place l = (i : ℕ) → i < l.place → slice_index (counts_in l.fields l.number) i ≤ slice_index l.bounds i
