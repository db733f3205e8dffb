use Rattle.std.proofs.Common.{◌≢◌}
use Rattle.calculus.specs.Meaning.{MarksOf}
use Rattle.game.specs.declared.player.Player.TheVariants.{Even}
use Rattle.game.specs.Arena.{place}
use Rattle.measures.specs.Measure.{Top}
use Rattle.measures.specs.Progress.{value_at}
use Rattle.measures.specs.StoredProposal.{values_of}
use Rattle.verdicts.proofs.proposing.root_marks_of.Given as goal

abbrev pub invariant-loop-state : goal.invariant-loop-state
invariant-loop-state l = MarksOf l.state l.marks.items (λ s. value_at (values_of Even l.proposals) (place l.nodes s 0) ≢ Top)
