use Rattle.measures.proofs.Common.{◌≢◌, rules, Odd}
use Rattle.measures.specs.Proposal.{IsReason}
use Rattle.measures.specs.StoredProposal.{proposal_in}
use Rattle.measures.proofs.StoredProposals.{none_decides}
use Rattle.measures.proofs.proposal.Proposals.are_enough.Goals as goal

pub returns : goal.returns
returns c = λ g wide so.
    let at = c.args.at.now in
    let differs : c.args.asker ≢ Odd = λ odd. let is = c.eq-one_is_enough.ensures in search rules in
    none_decides c.args.asker (IsReason (proposal_in at.player c.args.self.now g) c.args.digit at.priority at.v) c.args.successors.now c.loop-t.t-index
    c.loop-t-test.false (c.loop-t.invariant g wide) differs
