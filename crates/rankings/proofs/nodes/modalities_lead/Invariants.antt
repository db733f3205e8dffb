use Rattle.std.proofs.Common.{◌<◌, ◌≤◌, ℕ}
use Rattle.rankings.specs.Columns.{number_at}
use Rattle.rankings.specs.Slopes.{StepsFollowAt, sink_of}
use Rattle.rankings.proofs.nodes.modalities_lead.Given as goal

abbrev pub invariant-loop-s : goal.invariant-loop-s
invariant-loop-s l = (s : ℕ) → l.fn.span.first ≤ s → s < l.s → StepsFollowAt l.lts l.slopes l.owner l.set (number_at l.own) (number_at l.next) (sink_of l.owner) s
