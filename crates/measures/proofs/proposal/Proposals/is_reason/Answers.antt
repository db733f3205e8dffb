use Rattle.measures.proofs.Common.{◌+◌, ◌*◌, ◌-◌, ap, sym}
use Rattle.measures.specs.StoredProposal.{proposal_in, value_said}
use Rattle.measures.proofs.StoredProposals.{as_much}
use Rattle.measures.proofs.proposal.Proposals.is_reason.Goals as goal

pub returns-in-Equal-compare_first : goal.returns-in-Equal-compare_first
returns-in-Equal-compare_first c = λ g wide so.
    let at = c.args.at.now in
    as_much (proposal_in at.player c.args.self.now g) c.args.digit at.priority at.v c.args.next (2 * (at.width - c.args.digit) + 1) (value_said at.own) (value_said c.proposed-other.result)
    (ap (λ n. 2 * (n - c.args.digit) + 1) (sym wide)) c.in-Less.ensures c.requires.known.own c.proposed-other.ensures.value c.in-Equal-compare_first.ensures
    ((c.falls.ensures g).0 so)
