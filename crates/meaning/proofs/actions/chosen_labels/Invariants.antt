use Rattle.std.proofs.Common.{◌≡◌, ℕ, ◌<◌, ◌≤◌, ◌^◌, length, false}
use Rattle.std.specs.Prelude.{slice_index_or}
use Rattle.systems.specs.Numbered.{label_at}
use Rattle.calculus.specs.View.{action_of}
use Rattle.calculus.specs.Holds.{holds}
use Rattle.meaning.proofs.actions.chosen_labels.Given as goal

-- the labels so far are decided
abbrev pub invariant-loop-number : goal.invariant-loop-number
invariant-loop-number l = record {
  count : length l.chosen.items ≡ l.number;
  some : l.number ≤ 2 ^ 32;
  each : (k : ℕ) → k < length l.chosen.items → slice_index_or l.chosen.items k false ≡ holds (action_of l.action) (label_at l.lts.labels k);
}
