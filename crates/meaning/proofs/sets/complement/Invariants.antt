use Rattle.std.proofs.Common.{◌≡◌, ◌++◌, map, not, take, drop}
use Rattle.meaning.proofs.sets.complement.Given as goal

-- the marks before the index are turned
abbrev pub invariant-loop-mark : goal.invariant-loop-mark
invariant-loop-mark l = l.mark-items ≡ map not (take l.mark-index l.fn.marks.items) ++ drop l.mark-index l.fn.marks.items
