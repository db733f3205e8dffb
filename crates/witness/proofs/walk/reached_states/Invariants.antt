use Rattle.calculus.specs.Meaning.{Leads}
use Rattle.calculus.specs.Tree.{Anything, Step}
use Rattle.witness.specs.Walk.{IsMarkedWalk, vertices_left}
use Rattle.witness.proofs.walk.reached_states.Given as goal

abbrev pub invariant-loop-state : goal.invariant-loop-state
invariant-loop-state l = IsMarkedWalk l.system.system.states (Leads l.system.system (Step Anything)) l.from l.marks.items l.waiting.items

abbrev pub decreases-loop-state : goal.decreases-loop-state
decreases-loop-state l = vertices_left l.marks.items l.waiting.items
