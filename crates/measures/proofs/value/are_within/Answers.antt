use Rattle.measures.proofs.Common.{arith, length-map}
use Rattle.measures.specs.StoredProposal.{count_in, counts_in}
use Rattle.measures.proofs.StoredProposals.{all_within}
use Rattle.measures.proofs.value.are_within.Goals as goal

pub returns : goal.returns
returns c = λ so.
    let long = length-map c.args.fields.now (λ field. count_in field c.args.number) in
    all_within (counts_in c.args.fields.now c.args.number) c.args.bounds.now c.loop-place.place (omega arith) (omega arith) c.loop-place.invariant
