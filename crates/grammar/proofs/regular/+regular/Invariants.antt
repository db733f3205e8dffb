-- Each call has fewer tokens, or as many and is nearer to their first.
use Rattle.std.proofs.Common.{◌+◌, ◌*◌, length}
use Rattle.grammar.proofs.regular.+regular.Given as goal

abbrev pub decreases-extended : goal.decreases-extended
decreases-extended l = 4 * length l.left.rest.now + 2

abbrev pub decreases-joined : goal.decreases-joined
decreases-joined l = 4 * length l.left.rest.now

abbrev pub decreases-lengthened : goal.decreases-lengthened
decreases-lengthened l = 4 * length l.left.rest.now + 1

abbrev pub decreases-negated : goal.decreases-negated
decreases-negated l = 4 * length l.tokens.now + 2

abbrev pub decreases-negation : goal.decreases-negation
decreases-negation l = 4 * length l.tokens.now + 1

abbrev pub decreases-parens : goal.decreases-parens
decreases-parens l = 4 * length l.tokens.now + 4

abbrev pub decreases-regular : goal.decreases-regular
decreases-regular l = 4 * length l.tokens.now + 3
