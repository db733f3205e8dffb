use Rattle.std.proofs.Common.{arith}
use Rattle.evidence.proofs.Shortening.{puts_more, puts_none}
use Rattle.evidence.proofs.short.put.Goals as goal

pub returns-in_ok-push : goal.returns-in_ok-push
returns-in_ok-push c = puts_more c.args.byte _ _ c.in_ok-push.ensures.items (omega arith)

pub returns-else-len-lt-LONGEST_LINE : goal.returns-else-len-lt-LONGEST_LINE
returns-else-len-lt-LONGEST_LINE c = puts_none c.args.byte _ (omega arith)
