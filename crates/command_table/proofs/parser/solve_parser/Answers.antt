use Rattle.std.proofs.Common.{Ok}
use Rattle.command_table.specs.Table.{lifting_rules}
use Rattle.command_table.proofs.Tables.{adds_rule_if_ok, adds_rules_if_ok}
use Rattle.command_table.proofs.parser.solve_parser.Goals as goal

pub returns : goal.returns
returns c =
    let game = adds_rule_if_ok (Ok c.described.result) _ _ _ _ c.with_arg-parser.ensures c.file.ensures c.described.ensures in
    let evidence = adds_rule_if_ok _ _ _ _ _ c.with_arg-parser-2.ensures c.valued.ensures game in
    let stats = adds_rule_if_ok _ _ _ _ _ c.with_arg-parser-3.ensures c.flag.ensures evidence in
    adds_rules_if_ok _ _ _ (lifting_rules c.args.boards) c.with_workers.ensures stats
