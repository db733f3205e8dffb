use Rattle.std.proofs.Common.{◌<◌, length, ap, arith}
use Rattle.text.proofs.Cutting.{takes_piece}
use Rattle.text.proofs.lines.next_piece.Goals as goal

pub returns-in-Ok : goal.returns-in-Ok
returns-in-Ok g c =
    takes_piece _ _ c.read_until.new.buf.items c.cut_end.new.line.items (rw c.clear.ensures.items at c.in-Ok.ensures.bytes) c.in-Ok.ensures.rest
    (λ none. let some : 0 < length c.read_until.new.buf.items = omega (arith, c.in-Ok.ensures.ok, c.in-Ok.field-0-test.1, c.read_until.new.buf.ok.0)
    in absurd (omega (arith, ap length none))) c.cut_end.ensures
