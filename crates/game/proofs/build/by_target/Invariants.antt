use Rattle.game.proofs.Common.{◌≡◌, ◌<◌, take, AllByRecursion}
use Rattle.game.proofs.build.by_target.Given as goal

abbrev pub invariant-loop-transition : goal.invariant-loop-transition
invariant-loop-transition l = record {
  copied : l.row.items ≡ take l.transition-index l.transition-items;
  numbers : AllByRecursion (λ t. t.label < 4294967296) l.row.items;
}
