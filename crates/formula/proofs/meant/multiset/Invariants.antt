-- The names so far, in the order in which they are written.
use Rattle.std.proofs.Common.{◌≡◌, ◌∷◌, map, take}
use Rattle.formula.proofs.meant.multiset.Given as goal

abbrev pub invariant-loop-name : goal.invariant-loop-name
invariant-loop-name l = map (λ name. name.items) l.names.items ≡ l.first ∷ map (λ name. name.now) (take l.name-index l.others)
