-- what was kept so far
use Rattle.std.proofs.Common.{take}
use Rattle.evidence.proofs.Shortening.{KeptSo}
use Rattle.evidence.proofs.short.keep_all.Given as goal

abbrev pub invariant-loop-byte : goal.invariant-loop-byte
invariant-loop-byte l = KeptSo l.digits (take l.byte-index l.run) l.fn.kept.items l.kept.items l.after
