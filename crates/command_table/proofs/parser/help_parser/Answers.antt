use Rattle.std.proofs.lemmas.Result.{IfOk-weaker}
use Rattle.command_table.proofs.Tables.{adds_rule, helped}
use Rattle.command_table.proofs.parser.help_parser.Goals as goal

pub returns : goal.returns
returns c =
    let topic = helped c.new.result _ _ _ c.help-command.ensures (record { same = c.new.ensures.rule; local = c.new.ensures.optional.1 }) in
    IfOk-weaker c.arg.result _ _ (λ parser added. adds_rule _ _ _ _ _ added topic c.described.ensures) c.arg.ensures
