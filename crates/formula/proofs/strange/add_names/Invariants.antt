use Rattle.std.proofs.Common.{◌≡◌, ◌||◌, ℕ, List, take}
use Rattle.std.specs.List.{list_any}
use Rattle.std.specs.Str.{bytes_eq}
use Rattle.systems.specs.Label.{texts}
use Rattle.formula.proofs.strange.add_names.Given as goal

abbrev pub invariant-loop-name : goal.invariant-loop-name
invariant-loop-name l =
    (bytes : List ℕ) → list_any (λ name. bytes_eq bytes name.now) l.set.keys
    ≡ (list_any (λ name. bytes_eq bytes name.now) l.fn.set.keys || list_any (λ name. bytes_eq name bytes) (texts (take l.name-index l.names)))
