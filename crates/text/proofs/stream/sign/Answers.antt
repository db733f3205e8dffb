use Rattle.text.proofs.Streaming.{sign_taken, sign_missing, next_is, next_is_not}
use Rattle.text.proofs.stream.sign.Goals as goal

pub returns-then-ne : goal.returns-then-ne
returns-then-ne g c =
    sign_missing c.args.token c.in_ok-skip_blanks.field-0 _ _ c.in_ok-skip_blanks.ensures.next
    (next_is_not c.in_ok-skip_blanks.field-0 c.args.token c.ne.result c.ne.ensures c.if-ne.true)

pub returns : goal.returns
returns g c =
    sign_taken c.args.token c.in_ok-skip_blanks.field-0 _ _ _ _ c.requires.inside c.in_ok-skip_blanks.ensures.next
    (next_is c.in_ok-skip_blanks.field-0 c.args.token c.ne.result c.ne.ensures c.if-ne.false) c.in_ok-skip_blanks.ensures.room c.consume.ensures.bytes
