use Rattle.std.proofs.Common.{◌≡◌, drop, map}
use Rattle.std.specs.List.{list_any}
use Rattle.systems.specs.Numbered.{arrow_of}
use Rattle.systems.specs.System.{Arrow}
use Rattle.calculus.specs.Holds.{holds}
use Rattle.calculus.specs.View.{action_of}
use Rattle.why.proofs.everywhere.has_step.Given as goal

abbrev pub invariant-loop-step : goal.invariant-loop-step
invariant-loop-step l = list_any (λ (arrow : Arrow). holds (action_of l.action) arrow.label) (map (arrow_of l.system.labels) l.step-items)
    ≡ list_any (λ (arrow : Arrow). holds (action_of l.action) arrow.label) (map (arrow_of l.system.labels) (drop l.step-index l.step-items))
