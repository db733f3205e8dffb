use Rattle.std.specs.Prelude.{◌≡◌, ◌<◌, ℕ, false, vec_len, slice_index_or}
use Rattle.systems.specs.Numbered.{label_at}
use Rattle.calculus.specs.Holds.{holds}
use Rattle.calculus.specs.View.{action_of}
use Rattle.calculus.proofs.label_sets.set_of.Given as goal

abbrev pub invariant-loop-number : goal.invariant-loop-number
invariant-loop-number l = record {
  count : vec_len l.set ≡ l.number;
  each : (k : ℕ) → k < l.number → slice_index_or l.set.items k false ≡ holds (action_of l.action) (label_at l.lts.labels k);
}
