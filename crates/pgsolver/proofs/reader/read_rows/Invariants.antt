-- what was read so far
use Rattle.std.proofs.Common.{◌≡◌, ◌+◌, length}
use Rattle.std.specs.Prelude.{vec_len}
use Rattle.pgsolver.specs.Left.{LinesSoFar}
use Rattle.pgsolver.proofs.reader.read_rows.Given as goal

abbrev pub invariant-loop-good : goal.invariant-loop-good
invariant-loop-good g l = record {
  so_far : LinesSoFar l.last l.good (g.B.Read.remaining l.fn.reader) (g.B.Read.remaining l.reader) l.rows.vertices l.rows.places.items;
  count : length l.rows.vertices ≡ l.good;
  places : vec_len l.rows.places ≡ l.last + 1;
}
