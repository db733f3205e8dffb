use Rattle.std.proofs.Common.{arith}
use Rattle.evidence.proofs.Shortening.{kept_none, kept_more, kept_all}
use Rattle.evidence.proofs.short.keep_all.Goals as goal

pub loop-byte-init : goal.loop-byte-init
loop-byte-init c = kept_none _ _

pub loop-byte-preserved : goal.loop-byte-preserved
loop-byte-preserved c = kept_more _ c.args.run.now c.loop-byte.byte-index _ _ _ _ _ c.loop-byte-test.true c.loop-byte.invariant
    c.in_ok-after.ensures.digits c.in_ok-after.ensures.kept

pub returns-clause-digits : goal.returns-clause-digits
returns-clause-digits c = (kept_all _ c.args.run.now c.loop-byte.byte-index _ _ _ (omega arith) c.loop-byte.invariant).digits

pub returns-clause-kept : goal.returns-clause-kept
returns-clause-kept c = (kept_all _ c.args.run.now c.loop-byte.byte-index _ _ _ (omega arith) c.loop-byte.invariant).kept
