use Rattle.grammar.specs.Written.{state_syntax}
use Rattle.formula.proofs.Refusals.{operand-refused, variable-refused}
use Rattle.formula.proofs.reader.check.Goals as goal

pub returns-in-Err : goal.returns-in-Err
returns-in-Err c = operand-refused (state_syntax c.args.written.now) _ c.in-Err.place _ c.in-Err.ensures.0 c.refusal.ensures

pub returns-in-Err-variables : goal.returns-in-Err-variables
returns-in-Err-variables c =
    let h = c.in-Err-variables.ensures in
    variable-refused (state_syntax c.args.written.now) _ c.in-Err-variables.found _ c.in_default.ensures.1 h.0 h.2 c.refusal-in-Err-variables.ensures
