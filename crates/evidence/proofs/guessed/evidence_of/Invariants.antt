use Rattle.std.proofs.Common.{◌≡◌, length}
use Rattle.evidence.specs.Evidence.{counted}
use Rattle.evidence.proofs.guessed.evidence_of.Given as goal

abbrev pub invariant-loop-v : goal.invariant-loop-v
invariant-loop-v l = (l.evidence.game ≡ l.game) × (l.evidence.evidence.player ≡ l.fn.player) × (length l.rank.items ≡ length (counted l.fn.player l.game))
