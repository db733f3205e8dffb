use Rattle.std.proofs.Common.{◌<◌, ◌≤◌, ℕ, length}
use Rattle.game.specs.Game.{vertex}
use Rattle.game.specs.Predecessors.{successors_at}
use Rattle.liftcore.proofs.turn.most_successors.Given as goal

abbrev pub invariant-loop-v : goal.invariant-loop-v
invariant-loop-v l = (w : ℕ) → w < l.v → length (successors_at (vertex l.game w)) ≤ l.most
