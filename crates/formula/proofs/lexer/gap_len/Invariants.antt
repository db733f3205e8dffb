use Rattle.std.proofs.Common.{length, ◌-◌}
use Rattle.formula.specs.Cutting.{IsGap}
use Rattle.formula.proofs.lexer.gap_len.Given as goal

abbrev pub invariant-gap : goal.invariant-gap
invariant-gap l = IsGap l.at l.text

abbrev pub decreases-gap : goal.decreases-gap
decreases-gap l = length l.text - l.at
