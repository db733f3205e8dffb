use Rattle.measures.proofs.Common.{◌<◌, slice_index_or, take, Top, IsBestFor}
use Rattle.measures.proofs.progs.best_place.Given as goal

abbrev pub invariant-loop-k : goal.invariant-loop-k
invariant-loop-k l = record {
  inside : l.best < l.k;
  best : IsBestFor l.player (take l.k l.measures) (slice_index_or l.measures l.best Top);
}
