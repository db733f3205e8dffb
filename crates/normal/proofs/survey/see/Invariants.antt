use Rattle.std.proofs.Common.{ℕ, ◌≡◌, ◌<◌, ◌≤◌}
use Rattle.normal.specs.Surveys.{open_at, seen_open}
use Rattle.normal.proofs.survey.see.Given as goal

abbrev pub invariant-loop-i : goal.invariant-loop-i
invariant-loop-i l = record {
  done : (k : ℕ) → k < l.i → open_at l.opens k ≡ seen_open l.binder l.at (open_at l.initial.opens k);
  left : (k : ℕ) → l.i ≤ k → open_at l.opens k ≡ open_at l.initial.opens k;
}
