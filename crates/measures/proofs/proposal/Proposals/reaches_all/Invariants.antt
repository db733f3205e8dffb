use Rattle.measures.proofs.Common.{◌≡◌, ◌<◌, ℕ, length, slice_index, components, Game}
use Rattle.measures.specs.Proposal.{ReachesFrom}
use Rattle.measures.specs.StoredProposal.{values_of}
use Rattle.measures.proofs.proposal.Proposals.reaches_all.Given as goal

abbrev pub invariant-loop-next : goal.invariant-loop-next
invariant-loop-next l = (g : Game) → length (components g) ≡ l.at.width → (i : ℕ) → i < l.next-index
    → ReachesFrom g (values_of l.at.player l.self) l.at.priority l.at.v (slice_index l.successors i)
