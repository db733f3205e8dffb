use Rattle.evidence.proofs.Taking.{short_read, still_read}
use Rattle.evidence.proofs.reader.read_line.Goals as goal

pub returns : goal.returns
returns g c =
    still_read _ _ _ c.args.evidence.now c.at_hand.new.evidence c.add_short.new.evidence c.add_short.result (rw c.in_default.is at c.in_ok-added.ensures)
    (short_read c.short_line.new.kept.items _ _ c.at_hand.new.evidence c.add_short.new.evidence c.add_short.result c.in_ok-short_line.ensures
    (rw c.deref.ensures.value at c.add_short.ensures.added) (rw c.deref.ensures.value at c.add_short.ensures.whole)
    (rw c.deref.ensures.value at c.add_short.ensures.fault))
