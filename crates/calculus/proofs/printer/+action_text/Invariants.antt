-- a tree above its operands, with a call that writes a sign before each between
use Rattle.std.proofs.Common.{◌+◌, ◌*◌, max}
use Rattle.calculus.specs.declared.tree.Act.{size-Act}
use Rattle.calculus.proofs.printer.+action_text.Given as goal

abbrev pub decreases-put_action : goal.decreases-put_action
decreases-put_action g l = 3 * size-Act l.action.now

abbrev pub decreases-put_signed_action : goal.decreases-put_signed_action
decreases-put_signed_action g l = 1 + 3 * size-Act l.action.now

abbrev pub decreases-put_action_pair : goal.decreases-put_action_pair
decreases-put_action_pair g l = 2 + 3 * max (size-Act l.left.now) (size-Act l.right.now)
