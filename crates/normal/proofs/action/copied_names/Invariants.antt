use Rattle.std.proofs.Common.{◌≡◌, map, take}
use Rattle.normal.proofs.action.copied_names.Given as goal

abbrev pub invariant-loop-name : goal.invariant-loop-name
invariant-loop-name l = map (λ name. name.items) l.copy.items ≡ map (λ name. name.items) (take l.name-index l.names)
