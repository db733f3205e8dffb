use Rattle.measures.proofs.Common.{◌≤◌, subst, IsMeasure}
use Rattle.measures.specs.StoredProposal.{value_said}
use Rattle.measures.proofs.StoredProposals.{bounds_wide, enough_for, measure_bounded}
use Rattle.game.specs.Lent.{lent_vertex}
use Rattle.measures.proofs.proposal.Proposals.good_move.Goals as goal

pub returns-then-has_reasons-clause-good : goal.returns-then-has_reasons-clause-good
returns-then-has_reasons-clause-good c = λ g at bounded.
    let bounds = c.args.bounds.now in
    let x = lent_vertex c.args.vertex in
    let wide = bounds_wide g bounds bounded in
    record {
      measure = subst (IsMeasure g) c.proposed-own.ensures.value (measure_bounded g (value_said c.proposed-own.result) bounds bounded
          (c.is_within.ensures c.if-not-is_within.false));
      reaches = (x, at, enough_for x.owner _ x.successors c.in_ok-next.next (c.in_ok-next.ensures g wide));
      reasons = λ digit l. c.has_reasons.ensures g at wide c.if-has_reasons.true digit (subst (λ n. digit ≤ n) wide l);
    }

pub returns-then-has_reasons-clause-next : goal.returns-then-has_reasons-clause-next
returns-then-has_reasons-clause-next c = λ g at bounded.
    (lent_vertex c.args.vertex, at, c.in_ok-next.ensures g (bounds_wide g c.args.bounds.now bounded))
