use Rattle.rankings.specs.Columns.{number_at}
use Rattle.rankings.specs.Slopes.{CanFollow}
use Rattle.rankings.proofs.Ranked.{two_columns}
use Rattle.rankings.proofs.Rows.{more_states}
use Rattle.rankings.proofs.nodes.singles_lead.Goals as goal

pub loop-s-preserved : goal.loop-s-preserved
loop-s-preserved c =
    more_states (λ s. CanFollow c.args.slopes (number_at c.args.own s) (number_at c.args.next s)) c.args.span.first c.loop-s.s c.loop-s.invariant
    (two_columns c.args.slopes c.number.result c.number-in-loop-s.result (number_at c.args.own c.loop-s.s) (number_at c.args.next c.loop-s.s) c.number.ensures
    c.number-in-loop-s.ensures (λ r p a. (c.let_follow.ensures r p a).0 c.if-not-let_follow.false))
