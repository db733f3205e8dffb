-- the formula above its parts, with a call that boxes each between, and one that takes two of them
use Rattle.std.proofs.Common.{◌+◌, ◌*◌, max}
use Rattle.calculus.specs.declared.tree.State.{size-State}
use Rattle.meaning.proofs.term.+terms.Given as goal

abbrev pub decreases-parts_of : goal.decreases-parts_of
decreases-parts_of l = 4 * size-State l.formula.now

abbrev pub decreases-term_of : goal.decreases-term_of
decreases-term_of l = 1 + 4 * size-State l.formula.now

abbrev pub decreases-boxed : goal.decreases-boxed
decreases-boxed l = 2 + 4 * size-State l.formula.now

abbrev pub decreases-boxed_both : goal.decreases-boxed_both
decreases-boxed_both l = 3 + 4 * max (size-State l.left.now) (size-State l.right.now)
