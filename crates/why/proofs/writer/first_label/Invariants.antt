use Rattle.std.proofs.Common.{◌≡◌, drop, map}
use Rattle.systems.specs.Numbered.{arrow_of}
use Rattle.calculus.specs.View.{action_of}
use Rattle.why.specs.Story.{first_label}
use Rattle.why.proofs.writer.first_label.Given as goal

abbrev pub invariant-loop-step : goal.invariant-loop-step
invariant-loop-step l = first_label (action_of l.action) l.target (map (arrow_of l.system.labels) l.steps)
    ≡ first_label (action_of l.action) l.target (map (arrow_of l.system.labels) (drop l.step-index l.steps))
