use Rattle.measures.proofs.Common.{◌≡◌, ◌<◌, ℕ, length, components, vertex, Game, Some}
use Rattle.measures.specs.Proposal.{HasReasonsFor}
use Rattle.measures.specs.StoredProposal.{proposal_in}
use Rattle.measures.proofs.proposal.Proposals.has_reasons.Given as goal

abbrev pub invariant-loop-digit : goal.invariant-loop-digit
invariant-loop-digit l = (g : Game) → vertex g l.at.v ≡ Some (record { owner = l.owner; priority = l.at.priority; successors = l.successors })
    → length (components g) ≡ l.at.width → (k : ℕ) → k < l.digit → HasReasonsFor (proposal_in l.at.player l.self g) k l.at.v
