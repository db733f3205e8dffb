use Rattle.std.proofs.Common.{◌≡◌}
use Rattle.measures.proofs.Settling.{Swept}
use Rattle.measures.proofs.settle.sweep.Given as goal

abbrev pub invariant-loop-v : goal.invariant-loop-v
invariant-loop-v l = record {
  game : l.table.game ≡ l.game;
  swept : Swept l.game l.v l.fn.table.values l.table.values l.rose;
}
