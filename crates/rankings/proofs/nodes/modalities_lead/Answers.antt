use Rattle.std.proofs.Common.{subst}
use Rattle.rankings.specs.Columns.{number_at}
use Rattle.rankings.specs.Slopes.{StepsFollow, StepsFollowAt, sink_of}
use Rattle.rankings.proofs.Always.{always_follow}
use Rattle.rankings.proofs.Rows.{more_states}
use Rattle.rankings.proofs.nodes.modalities_lead.Goals.{else-not-always-via-then-not-always+else-not-steps_lead, else-not-always-via-else-not-always}
use Rattle.rankings.proofs.nodes.modalities_lead.Goals as goal

pub loop-s-preserved : goal.loop-s-preserved
loop-s-preserved c =
    more_states (λ s. StepsFollowAt c.args.lts.now c.args.slopes c.args.owner c.args.set.now (number_at c.args.own) (number_at c.args.next)
    (sink_of c.args.owner) s) c.args.span.first c.loop-s.s c.loop-s.invariant
    (record {
      row = c.from-row.result.now;
      arrows = c.from-row.ensures.arrows;
      inside = c.from-row.ensures.inside;
      numbers = c.are_words.ensures c.if-not-are_words.false;
      steps = subst (λ m. StepsFollow c.args.slopes c.args.owner (number_at c.args.own c.loop-s.s) c.args.set.now c.from-row.result.now
          (number_at c.args.next) m) c.sink-sink.ensures
          (elim c.else-not-always.branch [
            | else-not-always-via-then-not-always+else-not-steps_lead w ↦
                subst (λ n. StepsFollow c.args.slopes c.args.owner n c.args.set.now c.from-row.result.now (number_at c.args.next) c.sink-sink.result)
                w.number.ensures (w.steps_lead.ensures w.if-not-steps_lead.false)
            | else-not-always-via-else-not-always w ↦ (
                let always = c.steps_always_lead-always.ensures w.if-not-always.false c.loop-s.s in
                always_follow c.args.slopes c.args.owner (number_at c.args.own c.loop-s.s) c.args.set.now c.from-row.result.now (number_at c.args.next)
                c.sink-sink.result (λ t. (always t).0) (always 0).1)
          ]);
    })
