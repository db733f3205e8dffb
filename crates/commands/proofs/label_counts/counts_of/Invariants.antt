use Rattle.std.proofs.Common.{take}
use Rattle.commands.proofs.Ranked.{CountsSoFar}
use Rattle.commands.proofs.label_counts.counts_of.Given as goal

abbrev pub invariant-loop-transition : goal.invariant-loop-transition
invariant-loop-transition l = CountsSoFar l.labels (take l.transition-index l.transitions) l.counts.items
