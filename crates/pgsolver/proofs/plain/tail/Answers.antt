use Rattle.pgsolver.proofs.Unspaced.{named_tail}
use Rattle.pgsolver.proofs.plain.tail.Goals as goal

pub returns-in_ok-past_name-in-Some : goal.returns-in_ok-past_name-in-Some
returns-in_ok-past_name-in-Some c =
    named_tail c.args.bytes.now c.in-Some.quoted.now c.in_ok-past_name-in-Some.field-0.now c.past_end.result c.in-Some.ensures
    c.in_ok-past_name-in-Some.ensures c.past_end.ensures
