use Rattle.std.proofs.Common.{◌≡◌, vec_len}
use Rattle.std.specs.List.{AllByRecursion}
use Rattle.workers.proofs.jobs.states.Given as goal

abbrev pub invariant-loop : goal.invariant-loop
invariant-loop g l = record {
  states : vec_len l.states ≡ l.counter;
  others : vec_len l.others ≡ l.counter;
  turns : AllByRecursion (λ state. state.turn.game ≡ l.game) l.states.items;
}
