use Rattle.measures.proofs.Common.{◌∙◌, below_more, refl, slice_index, sym, true≢false}
use Rattle.measures.specs.Proposal.{ReachesFrom}
use Rattle.measures.specs.StoredProposal.{values_of}
use Rattle.measures.proofs.proposal.Proposals.first_reached.Goals as goal

pub returns-then-reaches : goal.returns-then-reaches
returns-then-reaches c = λ g wide. record {
  place = c.loop-next.next-index;
  inside = c.loop-next-test.true;
  there = refl;
  holds = (c.reaches.ensures g wide).0 c.if-reaches.true;
  before = c.loop-next.invariant g wide;
}

pub loop-next-preserved : goal.loop-next-preserved
loop-next-preserved c = λ g wide.
    let at = c.args.at.now in
    below_more (λ i. ReachesFrom g (values_of at.player c.args.self.now) at.priority at.v (slice_index c.args.successors.now i) → ⊥) c.loop-next.next-index
    (c.loop-next.invariant g wide) (λ r. true≢false (sym ((c.reaches.ensures g wide).1 r) ∙ c.if-reaches.false))
