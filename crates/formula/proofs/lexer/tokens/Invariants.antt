use Rattle.std.proofs.Common.{length, ◌-◌}
use Rattle.formula.specs.Cutting.{IsCut}
use Rattle.formula.proofs.lexer.tokens.Given as goal

abbrev pub invariant-tokens : goal.invariant-tokens
invariant-tokens l = IsCut l.text l.at l.tokens.items

abbrev pub decreases-tokens : goal.decreases-tokens
decreases-tokens l = length l.text - l.at
