use Rattle.std.proofs.Common.{Ok}
use Rattle.command_table.specs.Table.{lifting_rules}
use Rattle.command_table.proofs.Tables.{adds_rule_if_ok, adds_rules_if_ok, lettered}
use Rattle.command_table.proofs.parser.check_parser.Goals as goal

pub returns : goal.returns
returns c =
    let system = adds_rule_if_ok (Ok c.described.result) _ _ _ _ c.with_arg-parser.ensures c.file.ensures c.described.ensures in
    let formula = adds_rule_if_ok _ _ _ _ _ c.with_arg-parser-2.ensures c.file-2.ensures system in
    let plain = adds_rule_if_ok _ _ _ _ _ c.with_arg-parser-3.ensures c.flag.ensures formula in
    let strict = adds_rule_if_ok _ _ _ _ _ c.with_arg-parser-4.ensures c.flag-2.ensures plain in
    let stats = adds_rule_if_ok _ _ _ _ _ c.with_arg-parser-5.ensures c.flag-3.ensures strict in
    let quiet = adds_rule_if_ok _ _ _ _ _ c.with_arg-parser-6.ensures (lettered _ _ _ _ c.short.ensures c.flag-4.ensures) stats in
    let summary = adds_rule_if_ok _ _ _ _ _ c.with_arg-parser-7.ensures c.flag-5.ensures quiet in
    let states = adds_rule_if_ok _ _ _ _ _ c.with_arg-parser-8.ensures c.choice-states.ensures summary in
    let limit = adds_rule_if_ok _ _ _ _ _ c.with_arg-parser-9.ensures c.number-limit.ensures states in
    let rule = adds_rule_if_ok _ _ _ _ _ c.with_arg-parser-10.ensures c.choice.ensures limit in
    let lifting = adds_rules_if_ok _ _ _ (lifting_rules c.args.boards) c.with_workers-parser.ensures rule in
    let game = adds_rule_if_ok _ _ _ _ _ c.with_arg-parser-11.ensures c.valued.ensures lifting in
    let evidence = adds_rule_if_ok _ _ _ _ _ c.with_arg-parser-12.ensures c.valued-2.ensures game in
    adds_rule_if_ok _ _ _ _ _ c.with_arg.ensures c.valued-witness.ensures evidence
