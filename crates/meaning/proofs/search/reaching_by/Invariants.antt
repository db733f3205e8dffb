use Rattle.std.proofs.Common.{ℕ, ◌≡◌, ◌+◌, ◌*◌, ◌<◌, ◌⊎◌, length}
use Rattle.std.specs.Prelude.{All, Contains}
use Rattle.calculus.specs.View.{action_of}
use Rattle.calculus.specs.Tree.{Step, Star}
use Rattle.calculus.specs.Meaning.{marked, Leads}
use Rattle.meaning.specs.Into.{Into}
use Rattle.meaning.specs.Arrivals.{unmarked}
use Rattle.meaning.proofs.search.reaching_by.Given as goal

-- what was found leads into the set, and the sources of what was found are found where it waits no more
abbrev pub invariant-loop-state : goal.invariant-loop-state
invariant-loop-state l = record {
  count : length l.found.items ≡ l.lts.system.states;
  inside : All (λ t. t < l.lts.system.states) l.waiting.items;
  known : (s : ℕ) → Contains l.waiting.items s → marked l.found.items s;
  sound : (s : ℕ) → s < l.lts.system.states → marked l.found.items s → Into l.lts.system (Star (Step (action_of l.action))) l.marks s;
  base : (s : ℕ) → s < l.lts.system.states → marked l.marks s → marked l.found.items s;
  closed : (s t : ℕ) → t < l.lts.system.states → Leads l.lts.system (Step (action_of l.action)) s t → marked l.found.items t → marked l.found.items s
      ⊎ Contains l.waiting.items t;
}

abbrev pub decreases-loop-state : goal.decreases-loop-state
decreases-loop-state l = 2 * unmarked l.found.items + length l.waiting.items
