use Rattle.std.proofs.Common.{◌≢◌, ◌≤◌, ◌<◌, ℕ}
use Rattle.why.specs.Telling.{IsVisit}
use Rattle.why.specs.declared.visit.Visit.{Visit}
use Rattle.why.proofs.walk.met.Given as goal

abbrev pub invariant-loop-i : goal.invariant-loop-i
invariant-loop-i l = (j : ℕ) (v : Visit) → l.walk.start ≤ j → j < l.i → IsVisit l.walk.visits.items j v → v.way.vertex ≢ l.u
