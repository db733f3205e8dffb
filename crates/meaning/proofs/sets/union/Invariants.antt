use Rattle.std.proofs.Common.{◌≡◌, ◌||◌}
use Rattle.meaning.proofs.Mixed.{mixed}
use Rattle.meaning.proofs.sets.union.Given as goal

-- the marks before the index are mixed
abbrev pub invariant-loop-state : goal.invariant-loop-state
invariant-loop-state l = l.marks.items ≡ mixed (λ p. p.0 || p.1) l.state l.fn.marks.items l.others
