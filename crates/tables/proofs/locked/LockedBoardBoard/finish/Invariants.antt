use Rattle.std.proofs.Common.{◌≡◌, length}
use Rattle.measures.specs.Progress.{LiesUnder}
use Rattle.tables.proofs.locked.LockedBoardBoard.finish.Given as goal

abbrev pub invariant-loop-v : goal.invariant-loop-v
invariant-loop-v g l = record {
  game : l.table.game ≡ g.K.GameName.game;
  kept : LiesUnder l.fn.table.values l.table.values;
}
