-- a tree above its operands, with a call that writes a sign beside each between
use Rattle.std.proofs.Common.{◌+◌, ◌*◌, max}
use Rattle.calculus.specs.declared.tree.Reg.{size-Reg}
use Rattle.calculus.proofs.printer.+regular_text.Given as goal

abbrev pub decreases-put_regular : goal.decreases-put_regular
decreases-put_regular g l = 3 * size-Reg l.regular.now

abbrev pub decreases-put_repeated : goal.decreases-put_repeated
decreases-put_repeated g l = 1 + 3 * size-Reg l.regular.now

abbrev pub decreases-put_signed_regular : goal.decreases-put_signed_regular
decreases-put_signed_regular g l = 1 + 3 * size-Reg l.regular.now

abbrev pub decreases-put_regular_pair : goal.decreases-put_regular_pair
decreases-put_regular_pair g l = 2 + 3 * max (size-Reg l.left.now) (size-Reg l.right.now)
