use Rattle.std.proofs.Common.{Ok}
use Rattle.command_table.specs.Table.{lifting_rules}
use Rattle.command_table.proofs.Tables.{adds_rule_if_ok, adds_rules_if_ok}
use Rattle.command_table.proofs.parser.why_parser.Goals as goal

pub returns : goal.returns
returns c =
    let system = adds_rule_if_ok (Ok c.described.result) _ _ _ _ c.with_arg-parser.ensures c.file.ensures c.described.ensures in
    let formula = adds_rule_if_ok _ _ _ _ _ c.with_arg-parser-2.ensures c.file-2.ensures system in
    let strict = adds_rule_if_ok _ _ _ _ _ c.with_arg-parser-3.ensures c.flag.ensures formula in
    let limit = adds_rule_if_ok _ _ _ _ _ c.with_arg-parser-4.ensures c.number-limit.ensures strict in
    let rule = adds_rule_if_ok _ _ _ _ _ c.with_arg-parser-5.ensures c.choice.ensures limit in
    adds_rules_if_ok _ _ _ (lifting_rules c.args.boards) c.with_workers.ensures rule
