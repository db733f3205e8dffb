use Rattle.clap.specs.Words.{found_of, rows_of}
use Rattle.command_line.specs.CommandLine.{HasArguments, IsCommand}
use Rattle.command_line.specs.declared.request.Command.TheVariants.{Check}
use Rattle.command_line.proofs.Refusals.{of_check, refused}
use Rattle.command_line.proofs.line.named_request.Goals as goal

pub returns-in_err-check-in-check : goal.returns-in_err-check-in-check
returns-in_err-check-in-check c =
    let rows = rows_of (found_of c.args.found.now) in
    refused (IsCommand c.args.name.now rows) (λ both. HasArguments rows (Check both.0 both.1)) _ _ c.from_residual.ensures.1 c.in_err-check-in-check.ensures
    (of_check c.args.name.now rows c.in-check.is)
