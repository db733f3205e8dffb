use Rattle.std.proofs.Common.{◌≡◌, ℕ, ◌+◌, ◌*◌, ◌<◌, length}
use Rattle.calculus.specs.View.{regular_of}
use Rattle.calculus.specs.Tree.{Star}
use Rattle.calculus.specs.Meaning.{marked}
use Rattle.meaning.specs.Into.{Into}
use Rattle.meaning.proofs.Behind.{height}
use Rattle.meaning.specs.Arrivals.{unmarked}
use Rattle.meaning.proofs.regular.+regular.Given as goal

-- what was found leads into the set, and the set was found
abbrev pub invariant-reaching-loop-any : goal.invariant-reaching-loop-any
invariant-reaching-loop-any l = record {
  count : length l.any.items ≡ l.lts.system.states;
  sound : (s : ℕ) → s < l.lts.system.states → marked l.any.items s → Into l.lts.system (Star (regular_of l.step)) l.marks s;
  base : (s : ℕ) → s < l.lts.system.states → marked l.marks s → marked l.any.items s;
}

abbrev pub decreases-reaching-loop-any : goal.decreases-reaching-loop-any
decreases-reaching-loop-any l = unmarked l.any.items

-- A regular formula falls by its height. At the same one, `reaching` comes before `leading`, and those that call it before it.
abbrev pub decreases-leading : goal.decreases-leading
decreases-leading l = 3 * height (regular_of l.regular.now)

abbrev pub decreases-reaching : goal.decreases-reaching
decreases-reaching l = 3 * height (regular_of l.step.now) + 1

abbrev pub decreases-any_number : goal.decreases-any_number
decreases-any_number l = 3 * height (regular_of l.step.now) + 2

abbrev pub decreases-at_least_one : goal.decreases-at_least_one
decreases-at_least_one l = 3 * height (regular_of l.step.now) + 2
