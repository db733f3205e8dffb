use Rattle.measures.proofs.Common.{◌≡◌, ◌≤◌, sum_of}
use Rattle.measures.proofs.settle.drain.Given as goal

abbrev pub invariant-loop : goal.invariant-loop
invariant-loop l = record {
  game : l.table.game ≡ l.game;
  kept : sum_of l.game l.fn.table.values ≤ sum_of l.game l.table.values;
}
