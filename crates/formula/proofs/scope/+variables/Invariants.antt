-- what is written above its parts, with a call on both between
use Rattle.std.proofs.Common.{◌+◌, ◌*◌, max}
use Rattle.grammar.specs.declared.written.WrittenState.{size-WrittenState}
use Rattle.formula.proofs.scope.+variables.Given as goal

abbrev pub decreases-variables : goal.decreases-variables
decreases-variables l = 2 * size-WrittenState l.state.now

abbrev pub decreases-variables_of_both : goal.decreases-variables_of_both
decreases-variables_of_both l = 1 + 2 * max (size-WrittenState l.left.now) (size-WrittenState l.right.now)
