use Rattle.measures.proofs.Common.{◌≡◌, ◌+◌, ◌*◌, ◌%◌, ◌≤◌, ◌++◌, length, map, count, greatest, odd_down}
use Rattle.measures.proofs.bounds.bounds.Given as goal

abbrev pub invariant-loop-p : goal.invariant-loop-p
invariant-loop-p l = record {
  rest : l.bounds.items ++ map (count l.game) (odd_down l.p) ≡ map (count l.game) (odd_down (greatest l.game));
  few : 2 * length l.bounds.items + l.p + l.p % 2 ≤ 32;
}
