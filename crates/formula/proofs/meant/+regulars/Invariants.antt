-- what is written above its operands, with a call that boxes each between
use Rattle.std.proofs.Common.{◌+◌, ◌*◌, max}
use Rattle.grammar.specs.declared.written.WrittenRegular.{size-WrittenRegular}
use Rattle.formula.proofs.meant.+regulars.Given as goal

abbrev pub decreases-regular : goal.decreases-regular
decreases-regular l = 3 * size-WrittenRegular l.written.now

abbrev pub decreases-regular_operand : goal.decreases-regular_operand
decreases-regular_operand l = 1 + 3 * size-WrittenRegular l.written.now

abbrev pub decreases-regular_operands : goal.decreases-regular_operands
decreases-regular_operands l = 2 + 3 * max (size-WrittenRegular l.left.now) (size-WrittenRegular l.right.now)
