-- the number of the digits so far
use Rattle.std.proofs.Common.{◌≡◌, take}
use Rattle.text.specs.Text as text
use Rattle.text.specs.Tokens.{capped}
use Rattle.text.proofs.scan.value_of.Given as goal

abbrev pub invariant-loop-digit : goal.invariant-loop-digit
invariant-loop-digit l = l.value ≡ capped (text.value_of (take l.digit-index l.digits))
