use Rattle.std.proofs.Common.{ap}
use Rattle.std.proofs.lemmas.Bool.{eqb-true}
use Rattle.text.specs.Text.{is_digit}
use Rattle.liftcore.proofs.Bytewise.{no_digit, worker_bad, worker_more}
use Rattle.liftcore.proofs.line.after_worker.Goals as goal

pub returns-in-None : goal.returns-in-None
returns-in-None c = λ line word begun.
    worker_bad line word c.args.worker c.args.byte begun (λ e. c.in-None.is)
    (λ digits value rest. no_digit digits rest c.args.byte (ap is_digit c.if-byte-eq32.true))

pub returns-in-Some-with_digit : goal.returns-in-Some-with_digit
returns-in-Some-with_digit c = λ line word begun.
    worker_more line word c.args.worker c.in-Some-with_digit.number c.args.byte begun c.in-Some-with_digit.ensures

pub returns-in-None-with_digit : goal.returns-in-None-with_digit
returns-in-None-with_digit c = λ line word begun.
    worker_bad line word c.args.worker c.args.byte begun (λ e. absurd (c.if-byte-eq32.false (eqb-true _ _ e))) c.in-None-with_digit.ensures
