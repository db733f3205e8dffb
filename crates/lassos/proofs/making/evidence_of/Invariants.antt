use Rattle.std.proofs.Common.{◌≡◌, length}
use Rattle.evidence.specs.Evidence.{counted}
use Rattle.lassos.proofs.making.evidence_of.Given as goal

abbrev pub invariant-loop-v : goal.invariant-loop-v
invariant-loop-v l = (l.evidence.game ≡ l.game) × (l.evidence.evidence.player ≡ l.player) × (length l.rank.items ≡ length (counted l.player l.game))
