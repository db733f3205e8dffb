use Rattle.measures.proofs.Common.{◌≡◌, ◌<◌, ℕ, length, slice_index, components, Game}
use Rattle.measures.specs.Proposal.{IsReason}
use Rattle.measures.specs.StoredProposal.{proposal_in}
use Rattle.measures.proofs.StoredProposals.{Undecided}
use Rattle.measures.proofs.proposal.Proposals.are_enough.Given as goal

abbrev pub invariant-loop-t : goal.invariant-loop-t
invariant-loop-t l = (g : Game) → length (components g) ≡ l.at.width → (i : ℕ) → i < l.t-index
    → Undecided l.fn.asker (IsReason (proposal_in l.at.player l.self g) l.digit l.at.priority l.at.v) (slice_index l.successors i)
