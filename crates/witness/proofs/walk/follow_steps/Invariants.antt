use Rattle.std.proofs.Common.{map, take}
use Rattle.witness.specs.Walk.{Visits}
use Rattle.witness.proofs.walk.follow_steps.Given as goal

-- so many steps are followed
abbrev pub invariant-loop-step : goal.invariant-loop-step
invariant-loop-step l = Visits l.initial.marks.items l.initial.waiting.items (map (λ t. t.target) (take l.step-index l.step-items)) l.marks.items l.waiting.items
