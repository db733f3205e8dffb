use Rattle.std.proofs.Common.{◌+◌}
use Rattle.calculus.specs.View.{regular_of, formula_of}
use Rattle.normal.proofs.Costs.{part_cost, formula_cost, modal_cost}
use Rattle.normal.proofs.write.Preorder.+part.Given as goal

abbrev pub decreases-part : goal.decreases-part
decreases-part l = part_cost l.part.now

abbrev pub decreases-formula : goal.decreases-formula
decreases-formula l = formula_cost (formula_of l.formula.now)

abbrev pub decreases-modal : goal.decreases-modal
decreases-modal l = modal_cost (regular_of l.regular.now) (part_cost l.operand.now)

abbrev pub decreases-iteration : goal.decreases-iteration
decreases-iteration l = 5 + part_cost l.operand.now + modal_cost (regular_of l.regular.now) 1

abbrev pub decreases-junction : goal.decreases-junction
decreases-junction l = 1 + part_cost l.left.now + part_cost l.right.now

abbrev pub decreases-modality : goal.decreases-modality
decreases-modality l = 1 + part_cost l.operand.now

abbrev pub decreases-fixpoint : goal.decreases-fixpoint
decreases-fixpoint l = 1 + part_cost l.operand.now
