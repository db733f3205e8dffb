use Rattle.std.proofs.Common.{Ok}
use Rattle.command_table.proofs.Tables.{adds_rule_if_ok}
use Rattle.command_table.proofs.parser.normal_parser.Goals as goal

pub returns : goal.returns
returns c =
    let formula = adds_rule_if_ok (Ok c.described.result) _ _ _ _ c.with_arg-parser.ensures c.file.ensures c.described.ensures in
    adds_rule_if_ok _ _ _ _ _ c.with_arg.ensures c.choice.ensures formula
