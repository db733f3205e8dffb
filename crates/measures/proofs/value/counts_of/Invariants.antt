use Rattle.measures.proofs.Common.{◌≡◌, take}
use Rattle.measures.specs.StoredProposal.{counts_in}
use Rattle.measures.proofs.value.counts_of.Given as goal

abbrev pub invariant-loop-field : goal.invariant-loop-field
invariant-loop-field l = l.counts.items ≡ counts_in (take l.field-index l.fields) l.number
