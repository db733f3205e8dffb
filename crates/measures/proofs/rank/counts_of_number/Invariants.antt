use Rattle.measures.proofs.Common.{◌≡◌, ◌<◌, ◌++◌, drop, length, decode, lists_up_to}
use Rattle.measures.proofs.rank.counts_of_number.Given as goal

abbrev pub invariant-loop-bound : goal.invariant-loop-bound
invariant-loop-bound l = record {
  weight : l.weight ≡ lists_up_to (λ b. b) (drop l.bound-index l.bounds);
  low : l.rest < l.weight;
  long : length l.counts.items ≡ l.bound-index;
  read : l.counts.items ++ decode (λ b. b) (drop l.bound-index l.bounds) l.rest ≡ decode (λ b. b) l.bounds l.number;
}
