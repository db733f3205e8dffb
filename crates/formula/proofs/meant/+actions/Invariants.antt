-- what is written above its operands, with a call that boxes each between
use Rattle.std.proofs.Common.{◌+◌, ◌*◌, max}
use Rattle.grammar.specs.declared.written.WrittenRegular.{size-WrittenRegular}
use Rattle.formula.proofs.meant.+actions.Given as goal

abbrev pub decreases-action : goal.decreases-action
decreases-action l = 3 * size-WrittenRegular l.written.now

abbrev pub decreases-action_operand : goal.decreases-action_operand
decreases-action_operand l = 1 + 3 * size-WrittenRegular l.written.now

abbrev pub decreases-joined_action : goal.decreases-joined_action
decreases-joined_action l = 2 + 3 * max (size-WrittenRegular l.left.now) (size-WrittenRegular l.right.now)
