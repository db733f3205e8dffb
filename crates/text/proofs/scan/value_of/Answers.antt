use Rattle.std.proofs.Common.{◌∙◌}
use Rattle.text.proofs.Scanning.{value_more}
use Rattle.text.proofs.scan.value_of.Goals as goal

pub loop-digit-preserved : goal.loop-digit-preserved
loop-digit-preserved c =
    value_more c.args.digits.now c.loop-digit.digit-index _ _ _ _ c.loop-digit-test.true c.loop-digit.invariant c.saturating_mul.ensures
    (c.from.ensures ∙ c.saturating_sub.ensures) c.saturating_add-value.ensures
