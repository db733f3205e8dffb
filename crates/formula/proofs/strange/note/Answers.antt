use Rattle.formula.proofs.Noting.{word_left, word_noted}
use Rattle.formula.specs.Noted.{knows}
use Rattle.formula.proofs.strange.note.Goals as goal

pub returns-in_ok-push : goal.returns-in_ok-push
returns-in_ok-push c =
    word_noted (knows c.args.known.now) c.args.found.now.items c.push.new.self.items c.args.word c.is_next.result
    (rw c.deref.ensures.value at c.is_next.ensures) c.if-is_next.true c.in_ok-push.ensures.items

pub returns-else-is_next : goal.returns-else-is_next
returns-else-is_next c = word_left (knows c.args.known.now) c.args.found.now.items c.args.word c.is_next.result
    (rw c.deref.ensures.value at c.is_next.ensures) c.if-is_next.false
