use Rattle.std.proofs.Common.{map}
use Rattle.formula.specs.Strange.{name_or_atom}
use Rattle.formula.specs.Noted.{knows}
use Rattle.formula.proofs.Noting.{names_more}
use Rattle.formula.proofs.strange.note_names.Goals as goal

pub loop-name-preserved : goal.loop-name-preserved
loop-name-preserved c =
    names_more (knows c.args.known.now) (map name_or_atom c.args.found.now.items) (map name_or_atom c.loop-name.found.items)
    (map name_or_atom c.note.new.found.items) c.args.names.now c.loop-name.name-index c.name-item.result c.as_slice.result.now
    c.loop-name-test.true c.name-item.is c.as_slice.ensures.value c.loop-name.invariant c.in_ok-note.ensures
