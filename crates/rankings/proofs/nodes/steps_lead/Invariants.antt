use Rattle.std.proofs.Common.{◌≡◌, ◌<◌, ℕ, true, false}
use Rattle.std.specs.Prelude.{Some, slice_get}
use Rattle.systems.specs.declared.system.Transition.{Transition}
use Rattle.calculus.specs.Taken.{is_in}
use Rattle.rankings.specs.Columns.{number_at}
use Rattle.rankings.specs.Slopes.{CanFollow}
use Rattle.rankings.proofs.nodes.steps_lead.Given as goal

abbrev pub invariant-loop-step : goal.invariant-loop-step
invariant-loop-step l = record {
  followed : (i : ℕ) (t : Transition) → i < l.step-index → slice_get l.row i ≡ Some t → is_in l.set t ≡ true → l.is_own ≡ false
      → CanFollow l.slopes l.own (number_at l.next t.target);
  none : l.some ≡ false → (i : ℕ) (t : Transition) → i < l.step-index → slice_get l.row i ≡ Some t → is_in l.set t ≡ false;
  found : l.some ≡ true → (i : ℕ) × (t : Transition) × (slice_get l.row i ≡ Some t) × (is_in l.set t ≡ true);
}
