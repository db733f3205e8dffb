use Rattle.std.proofs.Common.{Ok}
use Rattle.command_table.proofs.Tables.{adds_rule_if_ok}
use Rattle.command_table.proofs.parser.replay_parser.Goals as goal

pub returns : goal.returns
returns c =
    let system = adds_rule_if_ok (Ok c.described.result) _ _ _ _ c.with_arg-parser.ensures c.file.ensures c.described.ensures in
    let formula = adds_rule_if_ok _ _ _ _ _ c.with_arg-parser-2.ensures c.file-2.ensures system in
    let schedule = adds_rule_if_ok _ _ _ _ _ c.with_arg-parser-3.ensures c.file-3.ensures formula in
    adds_rule_if_ok _ _ _ _ _ c.with_arg.ensures c.number-workers.ensures schedule
