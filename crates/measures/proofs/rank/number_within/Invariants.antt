use Rattle.measures.proofs.Common.{◌≡◌, ◌*◌, ◌<◌, drop, lists_up_to}
use Rattle.measures.proofs.rank.number_within.Given as goal

abbrev pub invariant-loop-bound : goal.invariant-loop-bound
invariant-loop-bound l = record {
  whole : l.number * lists_up_to (λ b. b) (drop l.bound-index l.bounds) ≡ lists_up_to (λ b. b) l.bounds;
  low : l.number < 4611686018427387904;
}
