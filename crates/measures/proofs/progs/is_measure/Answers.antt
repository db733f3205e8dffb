use Rattle.std.proofs.Common.{◌∙◌}
use Rattle.measures.proofs.Within.{measure_within}
use Rattle.measures.proofs.progs.is_measure.Goals as goal

pub returns-else-is_top : goal.returns-else-is_top
returns-else-is_top c =
    measure_within c.args.game.now c.args.m.now c.counts.result.now c.as_slice.result.now c.are_within.result c.is_top.result c.if-is_top.false
    c.is_top.ensures.1 c.counts.ensures.value
    (c.as_slice.ensures.value ∙ c.bounds.ensures) c.are_within.ensures
