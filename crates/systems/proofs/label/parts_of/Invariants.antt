-- the parts that ended, and then what is left with the part that goes on
use Rattle.std.proofs.Common.{◌≡◌, ◌++◌, drop}
use Rattle.systems.specs.Label as label
use Rattle.systems.specs.Label.{texts}
use Rattle.systems.proofs.Names.{glued}
use Rattle.systems.proofs.label.parts_of.Given as goal

abbrev pub invariant-loop-byte : goal.invariant-loop-byte
invariant-loop-byte l = label.parts_of l.bytes ≡ texts l.parts.items ++ glued l.part.items (label.parts_of (drop l.byte-index l.bytes))
