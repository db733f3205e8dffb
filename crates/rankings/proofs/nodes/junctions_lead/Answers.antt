use Rattle.std.proofs.Common.{inl}
use Rattle.rankings.specs.Columns.{number_at}
use Rattle.rankings.specs.Slopes.{TwoFollow}
use Rattle.rankings.proofs.Lent.{two_numbers}
use Rattle.rankings.proofs.Rows.{more_states}
use Rattle.rankings.proofs.nodes.junctions_lead.Goals as goal

pub loop-s-preserved : goal.loop-s-preserved
loop-s-preserved c =
    more_states (λ s. TwoFollow c.args.slopes c.args.owner (number_at c.args.own s) (number_at c.args.left s)
    (number_at c.args.right s)) c.args.span.first c.loop-s.s c.loop-s.invariant
    (two_numbers c.args.slopes c.args.owner c.number.result c.number-in-loop-s.result c.number-in-loop-s-2.result (number_at c.args.own c.loop-s.s)
    (number_at c.args.left c.loop-s.s) (number_at c.args.right c.loop-s.s) c.number.ensures c.number-in-loop-s.ensures c.number-in-loop-s-2.ensures
    (c.two_lead.ensures c.if-not-two_lead.false))

pub returns-then-always_follows-2 : goal.returns-then-always_follows-2
returns-then-always_follows-2 c = λ yes s h i. record {
  mine = λ o. inl (c.always_follows.ensures c.if-always_follows.true s s);
  theirs = λ o. (c.always_follows.ensures c.if-always_follows.true s s, c.always_follows-then-always_follows.ensures c.if-always_follows-2.true s s);
}
