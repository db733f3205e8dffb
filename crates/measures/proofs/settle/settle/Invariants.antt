use Rattle.measures.proofs.Common.{◌≡◌, ◌-◌, ◌*◌, length, height, sum_of}
use Rattle.measures.proofs.settle.settle.Given as goal

abbrev pub invariant-loop-table : goal.invariant-loop-table
invariant-loop-table l = l.table.game ≡ l.game

abbrev pub decreases-loop-table : goal.decreases-loop-table
decreases-loop-table l = length l.game.vertices * height l.game - sum_of l.game l.table.values
