-- what was read so far
use Rattle.std.proofs.Common.{◌≤◌, length}
use Rattle.systems.specs.Label.{texts}
use Rattle.lts.specs.Left.{ArrowsSoFar}
use Rattle.lts.proofs.reader.read_rows.Given as goal

abbrev pub invariant-loop-good : goal.invariant-loop-good
invariant-loop-good g l = record {
  so_far : ArrowsSoFar l.found.states l.good (g.B.Read.remaining l.fn.reader) (g.B.Read.remaining l.reader) (texts l.rows.labels.keys) l.rows.transitions.items;
  labels : length l.rows.labels.keys ≤ l.good;
}
