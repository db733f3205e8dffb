use Rattle.measures.proofs.Common.{◌≡◌, drop, nat_cmp}
use Rattle.std.specs.Cmp.Lexicographic.{slice_cmp}
use Rattle.measures.specs.StoredProposal.{counts_in}
use Rattle.measures.proofs.value.compare_counts.Given as goal

-- The fields so far have the same of both numbers.
abbrev pub invariant-loop-field : goal.invariant-loop-field
invariant-loop-field l = slice_cmp nat_cmp (counts_in l.fields l.number) (counts_in l.fields l.other)
    ≡ slice_cmp nat_cmp (counts_in (drop l.field-index l.fields) l.number) (counts_in (drop l.field-index l.fields) l.other)
