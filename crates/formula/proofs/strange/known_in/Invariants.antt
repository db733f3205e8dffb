use Rattle.std.proofs.Common.{◌≡◌, take}
use Rattle.formula.specs.Strange.{NameOrAtom}
use Rattle.formula.specs.Noted.{is_known, knows}
use Rattle.formula.proofs.strange.known_in.Given as goal

abbrev pub invariant-loop-number : goal.invariant-loop-number
invariant-loop-number l = (t : NameOrAtom) → knows l.known t ≡ is_known (take l.number l.system.labels) t
