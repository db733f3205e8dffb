use Rattle.std.proofs.Common.{Some}
use Rattle.command_line.proofs.Refusals.{refused}
use Rattle.command_line.proofs.line.file_name.Goals as goal

pub returns-in_err-name : goal.returns-in_err-name
returns-in_err-name c = refused _ _ _ _ c.from_residual.ensures.1 c.in_err-name.ensures (λ file is. (Some file, is))
