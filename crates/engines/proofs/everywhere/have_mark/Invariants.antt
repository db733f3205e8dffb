use Rattle.std.proofs.Common.{◌≡◌, ◌<◌, ℕ, IsTrue}
use Rattle.witness.specs.Walk.{is_marked}
use Rattle.engines.proofs.everywhere.have_mark.Given as goal

-- so many have the mark
abbrev pub invariant-loop-s : goal.invariant-loop-s
invariant-loop-s l = (s : ℕ) → s < l.s → IsTrue (is_marked l.states s) → is_marked l.marks s ≡ l.mark
