use Rattle.std.proofs.Common.{◌<◌, ◌≤◌, ℕ}
use Rattle.rankings.specs.Columns.{number_at}
use Rattle.rankings.specs.Slopes.{TwoFollow}
use Rattle.rankings.proofs.nodes.junctions_lead.Given as goal

abbrev pub invariant-loop-s : goal.invariant-loop-s
invariant-loop-s l = (s : ℕ) → l.fn.span.first ≤ s → s < l.s
    → TwoFollow l.slopes l.owner (number_at l.own s) (number_at l.left s) (number_at l.right s)
