use Rattle.std.proofs.Common.{◌≡◌, filter, take}
use Rattle.systems.specs.Numbered.{arrow_of}
use Rattle.calculus.specs.Normal.{normal_nodes}
use Rattle.witness.specs.Taken.{is_taken_by_some}
use Rattle.witness.specs.Walk.{is_marked}
use Rattle.witness.proofs.part.taken.Given as goal

-- those so far that are taken
abbrev pub invariant-loop-transition : goal.invariant-loop-transition
invariant-loop-transition l =
    l.part.items ≡ filter (λ t. is_taken_by_some (normal_nodes l.normal) l.evidence.evidence (is_marked l.marks) (arrow_of l.system.labels t))
    (take l.transition-index l.transition-items)
