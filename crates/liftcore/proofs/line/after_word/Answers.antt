use Rattle.std.proofs.Common.{arith}
use Rattle.std.proofs.lemmas.Bool.{ne_eqb}
use Rattle.liftcore.proofs.Bytewise.{word_full}
use Rattle.liftcore.proofs.line.after_word.Goals as goal

pub returns-in-Err : goal.returns-in-Err
returns-in-Err c = λ line is free.
    word_full line c.args.word.now.items c.args.byte is free (ne_eqb _ _ c.if-byte-eq32.false) (omega (arith, c.in-Err.ensures.full))
