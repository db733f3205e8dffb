-- a tree above its operands, with a call that writes a sign before each between
use Rattle.std.proofs.Common.{◌+◌, ◌*◌, max}
use Rattle.calculus.specs.declared.tree.State.{size-State}
use Rattle.calculus.proofs.printer.+state_text.Given as goal

abbrev pub decreases-put_state : goal.decreases-put_state
decreases-put_state g l = 3 * size-State l.formula.now

abbrev pub decreases-put_signed : goal.decreases-put_signed
decreases-put_signed g l = 1 + 3 * size-State l.formula.now

abbrev pub decreases-put_pair : goal.decreases-put_pair
decreases-put_pair g l = 2 + 3 * max (size-State l.left.now) (size-State l.right.now)

abbrev pub decreases-put_binder : goal.decreases-put_binder
decreases-put_binder g l = 2 + 3 * size-State l.body.now

abbrev pub decreases-put_modal : goal.decreases-put_modal
decreases-put_modal g l = 2 + 3 * size-State l.operand.now
