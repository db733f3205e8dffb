use Rattle.std.proofs.Common.{◌<◌, take}
use Rattle.std.specs.List.{AllByRecursion}
use Rattle.rankings.proofs.nodes.are_words.Given as goal

abbrev pub invariant-loop-step : goal.invariant-loop-step
invariant-loop-step l = AllByRecursion (λ t. t.label < 4294967296) (take l.step-index l.row)
