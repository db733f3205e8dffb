use Rattle.std.proofs.Common.{◌≡◌, false, drop}
use Rattle.formula.specs.Noted.{knows}
use Rattle.formula.proofs.Scanning.{scan}
use Rattle.formula.proofs.absent.first_in.Given as goal

abbrev pub invariant-loop-placed : goal.invariant-loop-placed
invariant-loop-placed l = scan (knows l.known) false l.tokens ≡ scan (knows l.known) l.inside (drop l.placed-index l.tokens)
