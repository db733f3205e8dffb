use Rattle.std.proofs.Common.{◌≡◌, map, take}
use Rattle.game.proofs.Duals.{turned}
use Rattle.game.proofs.dual.dual.Given as goal

abbrev pub invariant-loop-v : goal.invariant-loop-v
invariant-loop-v l = l.builder ≡ map turned (take l.v l.game.vertices)
