use Rattle.std.proofs.Common.{◌≡◌, fold, map, take}
use Rattle.systems.specs.Label.{texts}
use Rattle.formula.specs.Strange.{Name, name_or_atom}
use Rattle.formula.specs.Noted.{knows, with_term}
use Rattle.formula.proofs.strange.note_names.Given as goal

abbrev pub invariant-loop-name : goal.invariant-loop-name
invariant-loop-name l = map name_or_atom l.found.items ≡ fold (with_term (knows l.known)) (map name_or_atom l.fn.found.items)
    (map Name (texts (take l.name-index l.names)))
