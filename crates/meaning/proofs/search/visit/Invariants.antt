use Rattle.std.proofs.Common.{ℕ, ◌≡◌, ◌+◌, ◌*◌, ◌<◌, ◌≤◌, ◌⊎◌, length}
use Rattle.std.specs.Prelude.{All, Contains}
use Rattle.calculus.specs.Meaning.{marked}
use Rattle.meaning.specs.Arrivals.{IsSource, IsOneOf, unmarked}
use Rattle.meaning.proofs.search.visit.Given as goal

-- the sources that are not found yet are among those from the next number
abbrev pub invariant-loop-next : goal.invariant-loop-next
invariant-loop-next l = record {
  next : l.next ≤ length l.arrivals.all.items;
  count : length l.found.items ≡ length l.initial.found.items;
  inside : All (λ t. t < length l.initial.found.items) l.waiting.items;
  known : (s : ℕ) → Contains l.waiting.items s → marked l.found.items s;
  kept : (s : ℕ) → marked l.initial.found.items s → marked l.found.items s;
  waits : (s : ℕ) → Contains l.initial.waiting.items s → Contains l.waiting.items s;
  sources : (s : ℕ) → IsSource l.arrivals l.state s → marked l.found.items s ⊎ IsOneOf l.arrivals.all.items l.next s;
  origin : (s : ℕ) → IsOneOf l.arrivals.all.items l.next s → IsSource l.arrivals l.state s;
  fresh : (s : ℕ) → marked l.found.items s → marked l.initial.found.items s ⊎ (Contains l.waiting.items s × IsSource l.arrivals l.state s);
  fewer : 2 * unmarked l.found.items + length l.waiting.items ≤ 2 * unmarked l.initial.found.items + length l.initial.waiting.items;
}

abbrev pub decreases-loop-next : goal.decreases-loop-next
decreases-loop-next l = l.next
