use Rattle.std.proofs.Common.{None}
use Rattle.command_line.proofs.Refusals.{refused}
use Rattle.command_line.proofs.line.number.Goals as goal

pub returns-in_err-n-clause-read : goal.returns-in_err-n-clause-read
returns-in_err-n-clause-read c = refused _ _ _ _ c.from_residual.ensures.1 c.in_err-n.ensures.read (λ n is. (None, is.within))
