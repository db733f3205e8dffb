-- Each call has fewer tokens, or as many and is nearer to their first.
use Rattle.std.proofs.Common.{◌+◌, ◌*◌, length}
use Rattle.grammar.proofs.state.+state.Given as goal

abbrev pub decreases-extended : goal.decreases-extended
decreases-extended l = 4 * length l.left.rest.now + 1

abbrev pub decreases-negated : goal.decreases-negated
decreases-negated l = 4 * length l.tokens.now + 1

abbrev pub decreases-unary : goal.decreases-unary
decreases-unary l = 4 * length l.tokens.now

abbrev pub decreases-group : goal.decreases-group
decreases-group l = 4 * length l.tokens.now + 3

abbrev pub decreases-modal : goal.decreases-modal
decreases-modal l = 4 * length l.tokens.now + 2

abbrev pub decreases-bound : goal.decreases-bound
decreases-bound l = 4 * length l.tokens.now + 2

abbrev pub decreases-joined : goal.decreases-joined
decreases-joined l = 4 * length l.left.rest.now

abbrev pub decreases-prefixed : goal.decreases-prefixed
decreases-prefixed l = 4 * length l.tokens.now + 3

abbrev pub decreases-state : goal.decreases-state
decreases-state l = 4 * length l.tokens.now + 2
