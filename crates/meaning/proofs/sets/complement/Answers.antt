use Rattle.std.proofs.Common.{arith, not, false}
use Rattle.std.proofs.lemmas.List.Edits.{map_over_more}
use Rattle.std.proofs.lemmas.List.{get_or_default}
use Rattle.meaning.proofs.sets.complement.Goals as goal

pub loop-mark-preserved : goal.loop-mark-preserved
loop-mark-preserved c =
    map_over_more not c.args.marks.items c.loop-mark.mark-items c.loop-mark.mark-index _ (omega arith) c.loop-mark.invariant
    (get_or_default c.loop-mark.mark-items c.loop-mark.mark-index false _ (omega arith))
