use Rattle.measures.proofs.Common.{◌<◌, length, map, take, IsBestFor, value_at}
use Rattle.measures.proofs.rows.MeasureRows.best.Given as goal

abbrev pub invariant-loop-k : goal.invariant-loop-k
invariant-loop-k l = record {
  inside : l.best < length l.self.values;
  best : IsBestFor l.player (take l.k (map (value_at l.self.values) l.places)) (value_at l.self.values l.best);
}
