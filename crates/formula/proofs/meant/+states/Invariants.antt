-- what is written above its operands, with a call that boxes each between
use Rattle.std.proofs.Common.{◌+◌, ◌*◌, max}
use Rattle.grammar.specs.declared.written.WrittenState.{size-WrittenState}
use Rattle.formula.proofs.meant.+states.Given as goal

abbrev pub decreases-state : goal.decreases-state
decreases-state l = 3 * size-WrittenState l.written.now

abbrev pub decreases-operand : goal.decreases-operand
decreases-operand l = 1 + 3 * size-WrittenState l.written.now

abbrev pub decreases-joined_state : goal.decreases-joined_state
decreases-joined_state l = 2 + 3 * max (size-WrittenState l.left.now) (size-WrittenState l.right.now)

abbrev pub decreases-modal_state : goal.decreases-modal_state
decreases-modal_state l = 2 + 3 * size-WrittenState l.inner.now

abbrev pub decreases-bound_state : goal.decreases-bound_state
decreases-bound_state l = 2 + 3 * size-WrittenState l.inner.now
