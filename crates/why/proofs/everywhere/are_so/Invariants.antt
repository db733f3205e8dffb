use Rattle.std.proofs.Common.{◌≡◌, ◌<◌, ℕ, IsTrue}
use Rattle.calculus.specs.View.{action_of}
use Rattle.witness.specs.Walk.{is_marked}
use Rattle.why.specs.Everywhere.{has_step}
use Rattle.why.proofs.everywhere.are_so.Given as goal

abbrev pub invariant-loop-state : goal.invariant-loop-state
invariant-loop-state l = (s : ℕ) → s < l.state → IsTrue (is_marked l.marks s) → has_step l.system.system (action_of l.test.action.now) s ≡ l.test.possible
