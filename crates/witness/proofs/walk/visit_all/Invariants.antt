use Rattle.std.proofs.Common.{take}
use Rattle.witness.specs.Walk.{Visits}
use Rattle.witness.proofs.walk.visit_all.Given as goal

-- so many of them are visited
abbrev pub invariant-loop-t : goal.invariant-loop-t
invariant-loop-t l = Visits l.initial.marks.items l.initial.waiting.items (take l.t-index l.targets) l.marks.items l.waiting.items
