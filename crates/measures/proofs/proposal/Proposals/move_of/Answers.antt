use Rattle.measures.proofs.Common.{refl, subst, sym}
use Rattle.measures.specs.Proposal.{IsFirstMoveBy, ReachesFrom}
use Rattle.measures.specs.StoredProposal.{values_of}
use Rattle.measures.proofs.proposal.Proposals.move_of.Goals as goal

pub returns-in-Odd : goal.returns-in-Odd
returns-in-Odd c = λ g wide.
    let at = c.args.at.now in
    subst (λ o. IsFirstMoveBy o (ReachesFrom g (values_of at.player c.args.self.now) at.priority at.v) c.args.successors.now 4294967295) (sym c.in-Odd.is)
    (refl, c.reaches_all.ensures g wide c.if-reaches_all.true)
