use Rattle.measures.proofs.Common.{◌∙◌, arith, below_more, get_or_default, slice_index, subst}
use Rattle.measures.specs.Proposal.{ReachesFrom}
use Rattle.measures.specs.StoredProposal.{values_of}
use Rattle.measures.proofs.proposal.Proposals.reaches_all.Goals as goal

pub loop-next-preserved : goal.loop-next-preserved
loop-next-preserved c = λ g wide.
    let at = c.args.at.now in
    below_more (λ i. ReachesFrom g (values_of at.player c.args.self.now) at.priority at.v (slice_index c.args.successors.now i)) c.loop-next.next-index
    (c.loop-next.invariant g wide) ((c.reaches.ensures g wide).0 c.if-not-reaches.false)

pub returns : goal.returns
returns c = λ g wide yes t has.
    let at = c.args.at.now in
    let inside = has.1 in
    subst (ReachesFrom g (values_of at.player c.args.self.now) at.priority at.v) (get_or_default c.args.successors.now has.0 0 t inside ∙ has.2)
    (c.loop-next.invariant g wide has.0 (omega (arith, inside, c.loop-next-test.false)))
