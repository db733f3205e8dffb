use Rattle.game.proofs.Common.{◌≡◌, ◌++◌, map, take}
use Rattle.game.specs.View.{moved}
use Rattle.game.proofs.graph.push_moved.Given as goal

abbrev pub invariant-loop-row : goal.invariant-loop-row
invariant-loop-row l = l.rows.items ≡ l.initial.rows.items ++ map (moved l.places) (take l.row-index l.more)
