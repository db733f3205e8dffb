use Rattle.std.proofs.Common.{sym, true≢false, ◌∙◌}
use Rattle.evidence.proofs.Checked.{falling_is, staying_is}
use Rattle.evidence.proofs.verify.descends.Goals as goal

pub returns-then-falls : goal.returns-then-falls
returns-then-falls c = λ g wide.
    falling_is c.args.player g c.args.priority c.kept-kept.result c.args.rank.now c.args.next.now
    (c.kept-kept.ensures.kept g wide) c.is_lt.result c.cmp-order.result c.cmp-order.ensures (c.falls.ensures.0 c.if-falls.true) c.is_lt.ensures

pub returns-else-falls : goal.returns-else-falls
returns-else-falls c = λ g wide.
    staying_is c.args.player g c.args.priority c.kept-kept.result c.args.rank.now c.args.next.now
    (c.kept-kept.ensures.kept g wide) c.is_le.result c.cmp-order.result c.cmp-order.ensures
    (λ of. true≢false (sym (c.falls.ensures.1 of) ∙ c.if-falls.false)) c.is_le.ensures
