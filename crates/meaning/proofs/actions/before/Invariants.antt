use Rattle.std.proofs.Common.{◌≡◌, ℕ, ◌<◌, length, take}
use Rattle.std.specs.List.{list_any}
use Rattle.calculus.specs.View.{action_of}
use Rattle.calculus.proofs.Entering.{enters}
use Rattle.meaning.proofs.Marked.{at}
use Rattle.systems.specs.Numbered.{arrow_of}
use Rattle.meaning.proofs.actions.before.Given as goal

-- marked so far: the sources of the transitions so far that enter
abbrev pub invariant-loop-source : goal.invariant-loop-source
invariant-loop-source l = record {
  count : length l.found.items ≡ l.lts.system.states;
  each : (s : ℕ) → s < l.lts.system.states → at l.found.items s
      ≡ list_any (λ step. enters (action_of l.action) (at l.marks) s (arrow_of l.lts.labels step)) (take l.source-index l.source-items);
}
