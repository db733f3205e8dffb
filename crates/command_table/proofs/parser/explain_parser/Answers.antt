use Rattle.std.proofs.lemmas.Result.{IfOk-weaker}
use Rattle.command_table.proofs.Tables.{adds_rule}
use Rattle.command_table.proofs.parser.explain_parser.Goals as goal

pub returns : goal.returns
returns c = IfOk-weaker c.arg.result _ _ (λ parser added. adds_rule _ _ _ _ _ added c.file.ensures c.described.ensures) c.arg.ensures
