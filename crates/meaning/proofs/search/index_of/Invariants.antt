use Rattle.std.proofs.Common.{ℕ, ◌<◌, ◌↔◌, take, nat_eq}
use Rattle.std.specs.Prelude.{IsTrue, slice_index_or}
use Rattle.std.specs.List.{list_any}
use Rattle.systems.specs.Numbered.{arrow_of}
use Rattle.calculus.specs.View.{action_of}
use Rattle.calculus.proofs.Entering.{enters}
use Rattle.meaning.specs.Arrivals.{IsOneOf, HasRoom}
use Rattle.meaning.proofs.search.index_of.Given as goal

-- the chosen transitions so far
abbrev pub invariant-loop-source : goal.invariant-loop-source
invariant-loop-source l = record {
  room : HasRoom l.lts.system.states l.last.items l.all.items;
  steps : (t s : ℕ) → t < l.lts.system.states
      → IsOneOf l.all.items (slice_index_or l.last.items t 0) s
      ↔ IsTrue (list_any (λ step. enters (action_of l.action) (λ x. nat_eq x t) s (arrow_of l.lts.labels step)) (take l.source-index l.source-items));
}
