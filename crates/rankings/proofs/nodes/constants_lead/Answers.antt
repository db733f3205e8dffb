use Rattle.std.proofs.Common.{refl}
use Rattle.rankings.specs.Columns.{number_at}
use Rattle.rankings.specs.Slopes.{CanFollow}
use Rattle.rankings.proofs.Ranked.{two_columns}
use Rattle.rankings.proofs.Rows.{more_states}
use Rattle.rankings.proofs.nodes.constants_lead.Goals as goal

pub loop-s-preserved : goal.loop-s-preserved
loop-s-preserved c =
    more_states (λ s. CanFollow c.args.slopes (number_at c.args.own s) c.args.sink) c.args.span.first c.loop-s.s c.loop-s.invariant
    (two_columns c.args.slopes c.number.result c.args.sink (number_at c.args.own c.loop-s.s) c.args.sink c.number.ensures
    refl (λ r p a. (c.let_follow.ensures r p a).0 c.if-not-let_follow.false))
