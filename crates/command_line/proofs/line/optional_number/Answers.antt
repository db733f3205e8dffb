use Rattle.std.proofs.Common.{◌∙◌, ap, arith, Ok}
use Rattle.std.specs.Str.Parse.{ExplainsUnsignedError, HasUnsignedDigitsIfOk}
use Rattle.clap.specs.Words.{found_of}
use Rattle.command_line.proofs.Asked.{loosened, narrowed, number_read, widened}
use Rattle.command_line.proofs.line.optional_number.Goals.{else-least-n-via-then-least-n+else-n-most, else-least-n-via-else-least-n}
use Rattle.command_line.proofs.line.optional_number.Goals as goal

pub returns-in-Ok-None-clause-value : goal.returns-in-Ok-None-clause-value
returns-in-Ok-None-clause-value c =
    (number_read _ (ExplainsUnsignedError 10) HasUnsignedDigitsIfOk (found_of c.args.matches.now) c.args.id.now c.try_get_one.result _ (c.in-Ok-None.is ∙ ap Ok c.in-Ok-None.field-0-is) c.try_get_one.ensures.none c.try_get_one.ensures.value).0

pub returns-in-Ok-None-clause-read : goal.returns-in-Ok-None-clause-read
returns-in-Ok-None-clause-read c =
    let found = number_read _ (ExplainsUnsignedError 10) HasUnsignedDigitsIfOk (found_of c.args.matches.now) c.args.id.now c.try_get_one.result _ (c.in-Ok-None.is ∙ ap Ok c.in-Ok-None.field-0-is) c.try_get_one.ensures.none c.try_get_one.ensures.value in
    narrowed _ _ c.args.least c.args.most found.0 found.1 tt

pub returns-then-n-most-clause-value : goal.returns-then-n-most-clause-value
returns-then-n-most-clause-value c =
    (number_read _ (ExplainsUnsignedError 10) HasUnsignedDigitsIfOk (found_of c.args.matches.now) c.args.id.now c.try_get_one.result _ (c.in-Ok-Some.is ∙ ap Ok c.in-Ok-Some.field-0-is) c.try_get_one.ensures.none c.try_get_one.ensures.value).0

pub returns-then-n-most-clause-read : goal.returns-then-n-most-clause-read
returns-then-n-most-clause-read c =
    let found = number_read _ (ExplainsUnsignedError 10) HasUnsignedDigitsIfOk (found_of c.args.matches.now) c.args.id.now c.try_get_one.result _ (c.in-Ok-Some.is ∙ ap Ok c.in-Ok-Some.field-0-is) c.try_get_one.ensures.none c.try_get_one.ensures.value in
    narrowed _ _ c.args.least c.args.most found.0 found.1 (c.if-least-n.true, c.if-n-most.true)

pub returns-in-Err-clause-read : goal.returns-in-Err-clause-read
returns-in-Err-clause-read c = λ found within.
    number_read _ (ExplainsUnsignedError 10) HasUnsignedDigitsIfOk (found_of c.args.matches.now) c.args.id.now c.try_get_one.result _ c.in-Err.is c.try_get_one.ensures.none c.try_get_one.ensures.value
    (loosened _ c.args.least c.args.most (omega (arith, c.ranges.most)) within)

pub returns-else-least-n-clause-read : goal.returns-else-least-n-clause-read
returns-else-least-n-clause-read c = λ _ within.
    let found = number_read _ (ExplainsUnsignedError 10) HasUnsignedDigitsIfOk (found_of c.args.matches.now) c.args.id.now c.try_get_one.result _ (c.in-Ok-Some.is ∙ ap Ok c.in-Ok-Some.field-0-is) c.try_get_one.ensures.none c.try_get_one.ensures.value in
    let between = widened _ _ c.args.least c.args.most found.0 within in
    elim c.else-least-n.branch [
      | else-least-n-via-then-least-n+else-n-most w ↦ (let past = w.if-n-most.false in absurd (omega (arith, past, between.1)))
      | else-least-n-via-else-least-n w ↦ (let low = w.if-least-n.false in absurd (omega (arith, low, between.0)))
    ]
