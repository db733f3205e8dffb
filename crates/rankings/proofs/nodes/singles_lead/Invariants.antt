use Rattle.std.proofs.Common.{◌<◌, ◌≤◌, ℕ}
use Rattle.rankings.specs.Columns.{number_at}
use Rattle.rankings.specs.Slopes.{CanFollow}
use Rattle.rankings.proofs.nodes.singles_lead.Given as goal

abbrev pub invariant-loop-s : goal.invariant-loop-s
invariant-loop-s l = (s : ℕ) → l.fn.span.first ≤ s → s < l.s → CanFollow l.slopes (number_at l.own s) (number_at l.next s)
