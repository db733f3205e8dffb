use Rattle.std.proofs.Common.{Ok}
use Rattle.command_table.proofs.Tables.{adds_rule_if_ok, helped}
use Rattle.command_table.proofs.parser.labels_parser.Goals as goal

pub returns : goal.returns
returns c =
    let formula = helped c.new.result _ _ _ c.help.ensures (record { same = c.new.ensures.rule; local = c.new.ensures.optional.1 }) in
    let system = adds_rule_if_ok (Ok c.described.result) _ _ _ _ c.with_arg-parser.ensures c.file.ensures c.described.ensures in
    adds_rule_if_ok _ _ _ _ _ c.with_arg.ensures formula system
