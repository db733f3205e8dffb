use Rattle.game.proofs.Common.{◌≡◌, drop, rises}
use Rattle.game.proofs.graph.is_ascending.Given as goal

abbrev pub invariant-loop-number : goal.invariant-loop-number
invariant-loop-number l = rises l.limit l.least (drop l.number-index l.numbers) ≡ rises l.limit 0 l.numbers
