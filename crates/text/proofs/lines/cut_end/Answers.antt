use Rattle.std.proofs.Common.{rules}
use Rattle.text.proofs.Cutting.{cut_found, cut_other}
use Rattle.text.proofs.lines.cut_end.Goals as goal

pub returns-then-last-byte : goal.returns-then-last-byte
returns-then-last-byte c =
    cut_found c.args.byte c.args.line.now.items c.pop.new.self.items c.in-Some.last.now
    (rw c.deref.ensures.value at c.in-Some.ensures.value) c.if-last-byte.true (search rules)

pub returns-else-last-byte : goal.returns-else-last-byte
returns-else-last-byte c = cut_other c.args.byte c.args.line.now.items c.in-Some.last.now
    (rw c.deref.ensures.value at c.in-Some.ensures.value) c.if-last-byte.false
