use Rattle.std.proofs.Common.{ℕ, ◌<◌, ◌≤◌, length}
use Rattle.std.specs.Prelude.{All, Contains}
use Rattle.calculus.specs.Meaning.{marked}
use Rattle.meaning.proofs.search.states_in.Given as goal

-- the marked states so far
abbrev pub invariant-loop-state : goal.invariant-loop-state
invariant-loop-state l = record {
  inside : All (λ t. t < length l.marks) l.states.items;
  only : (t : ℕ) → Contains l.states.items t → marked l.marks t;
  every : (t : ℕ) → t < l.state → marked l.marks t → Contains l.states.items t;
  few : length l.states.items ≤ l.state;
}
