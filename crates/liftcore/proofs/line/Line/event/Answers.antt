use Rattle.std.proofs.Common.{subst}
use Rattle.liftcore.specs.Begun.{IsBegunLine}
use Rattle.liftcore.proofs.Bytewise.{faulty_event, word_event}
use Rattle.liftcore.proofs.line.Line.event.Goals as goal

pub returns-in-Word : goal.returns-in-Word
returns-in-Word c = λ line begun.
    let (is, free) = subst (IsBegunLine line c.args.self.now.word.items) c.in-Word.is begun in word_event line c.args.self.now.word.items is free

pub returns-in-Faulty : goal.returns-in-Faulty
returns-in-Faulty c = λ line begun.
    faulty_event line c.args.self.now.word.items (subst (IsBegunLine line c.args.self.now.word.items) c.in-Faulty.is begun)
