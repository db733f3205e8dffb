use Rattle.std.proofs.Common.{◌≡◌}
use Rattle.calculus.specs.Meaning.{MarksOf}
use Rattle.game.specs.declared.player.Player.TheVariants.{Even}
use Rattle.rankings.specs.Cells.{cell}
use Rattle.rankings.specs.Ranking.{winner_of}
use Rattle.rankings.proofs.winners.marks_of.Given as goal

abbrev pub invariant-loop-s : goal.invariant-loop-s
invariant-loop-s l = MarksOf l.s l.marks.items (λ s. winner_of (cell l.sheet 0 s) ≡ Even)
