use Rattle.measures.proofs.Common.{◌<◌, ◌≤◌, ℕ, suc}
use Rattle.measures.specs.StoredProposal.{shift_in}
use Rattle.measures.proofs.proposal.PlayerLayout.is_rising.Given as goal

abbrev pub invariant-loop-p : goal.invariant-loop-p
invariant-loop-p l = (p : ℕ) → p < l.p → shift_in l.self p ≤ shift_in l.self (suc p)
