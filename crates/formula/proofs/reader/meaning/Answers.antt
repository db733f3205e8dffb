use Rattle.std.proofs.Common.{inr}
use Rattle.grammar.specs.Written.{state_syntax}
use Rattle.formula.proofs.Sense.{meant_some}
use Rattle.grammar.proofs.Handed.{refused_on}
use Rattle.formula.proofs.Refusals.{meant-admitted}
use Rattle.formula.proofs.reader.meaning.Goals as goal

pub state-requires : goal.state-requires
state-requires c = meant_some (state_syntax c.args.written.now) 0 c.in_ok-check.ensures.0

pub returns-in_err-check : goal.returns-in_err-check
returns-in_err-check c = refused_on _ _ _ _ c.from_residual.ensures.1 (inr c.in_err-check.ensures)

pub returns : goal.returns
returns c = meant-admitted (state_syntax c.args.written.now) _ c.state.result c.in_ok-check.ensures.1 c.state.ensures
