use Rattle.std.proofs.Common.{None}
use Rattle.command_line.proofs.Refusals.{refused}
use Rattle.command_line.proofs.line.report_form.Goals as goal

pub returns-in_err-most : goal.returns-in_err-most
returns-in_err-most c = refused _ _ _ _ c.from_residual.ensures.1 c.in_err-most.ensures.read (λ form is. (None, is.limit))
