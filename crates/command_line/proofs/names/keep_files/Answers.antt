use Rattle.std.proofs.Common.{◌≡◌, ◌∙◌, [], ◌∷◌, Some, Option, ap, option_map}
use Rattle.std.proofs.lemmas.Result.{IfErr-weaker}
use Rattle.clap.specs.Words.{Text}
use Rattle.requests.proofs.Readings.{err_after}
use Rattle.requests.specs.declared.error.MuError.TheVariants as error
use Rattle.command_line.specs.declared.request.Command.{Command}
use Rattle.command_line.specs.declared.request.Outputs.{Outputs}
use Rattle.command_line.specs.Files.{outputs_of}
use Rattle.command_line.specs.Names.{AreApart, KeepsFiles, even_name, odd_name, read_beside}
use Rattle.command_line.specs.Refused.{IsLineError}
use Rattle.command_line.proofs.names.keep_files.Goals as goal

-- what is kept, by the names of the files
apart_by : (command : Command) (outputs : Outputs) (even odd : Option Text) → outputs ≡ outputs_of command
    → even ≡ option_map (λ path. even_name path.now) outputs.evidence → odd ≡ option_map (λ path. odd_name path.now) outputs.evidence → KeepsFiles command
    → AreApart (option_map (λ name. name.now) outputs.game ∷ even ∷ odd ∷ option_map (λ name. name.now) outputs.witness ∷ []) (read_beside command)
apart_by command outputs even odd is even_is odd_is kept = rw (even_is, odd_is, is) kept

pub returns-clause-refused : goal.returns-clause-refused
returns-clause-refused c =
    err_after error.Arguments c.keep_apart-2.result c.map_err-2.result (IsLineError (KeepsFiles c.args.command.now → ⊥)) c.map_err-2.ensures.cases
    (IfErr-weaker c.keep_apart-2.result _ _ (λ e none kept. none (apart_by c.args.command.now c.outputs-outputs.result (Some c.as_str-even.result.now)
    (Some c.as_str-odd.result.now) c.outputs-outputs.ensures (rw c.in-Some.is (ap Some (c.as_str-even.ensures.value ∙ c.in-Ok.ensures.even)))
    (rw c.in-Some.is (ap Some (c.as_str-odd.ensures.value ∙ c.in-Ok.ensures.odd))) kept)) c.keep_apart-2.ensures.only)
