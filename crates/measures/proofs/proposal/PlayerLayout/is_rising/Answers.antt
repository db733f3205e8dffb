use Rattle.measures.proofs.Common.{arith}
use Rattle.measures.proofs.StoredProposals.{risen}
use Rattle.measures.proofs.proposal.PlayerLayout.is_rising.Goals as goal

pub returns : goal.returns
returns c = λ so. risen c.args.self.now c.loop-p.p (omega arith) c.loop-p.invariant
