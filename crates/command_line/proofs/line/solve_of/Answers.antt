use Rattle.command_line.proofs.Refusals.{refused}
use Rattle.command_line.proofs.line.solve_of.Goals as goal

pub returns-in_err-options : goal.returns-in_err-options
returns-in_err-options c = refused _ _ _ _ c.from_residual-in_err-options.ensures.1 c.in_err-options.ensures (λ solve is. (solve.options, is.options))
