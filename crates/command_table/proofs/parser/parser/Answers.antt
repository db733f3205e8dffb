use Rattle.std.proofs.Common.{Ok, true, ap, ◌∙◌, refl}
use Rattle.std.proofs.lemmas.Result.{IfOk-weaker}
use Rattle.clap.specs.Walk.{texts}
use Rattle.clap.specs.Simple.{Shape, app_of_fields, on_top}
use Rattle.command_table.proofs.Tables.{adds_command_if_ok}
use Rattle.command_table.proofs.parser.parser.Goals as goal

pub returns : goal.returns
returns c =
    let version = ap app_of_fields c.version.ensures ∙ ap (on_top (λ (s : Shape). record s { has_version = true })) c.described.ensures in
    let required = ap app_of_fields c.subcommand_required.ensures ∙ ap (on_top (λ (s : Shape). record s { subcommand_required = true })) version in
    let start = ap app_of_fields c.disable_help_subcommand-parser.ensures ∙ ap (on_top (λ (s : Shape). record s { disable_help_subcommand = true })) required in
    let check = adds_command_if_ok (Ok c.disable_help_subcommand-parser.result) _ _ _ _ refl c.with_command-parser.ensures c.check_parser.ensures start in
    let why = adds_command_if_ok _ _ _ _ _ refl c.with_command-parser-2.ensures c.why_parser.ensures check in
    let table = adds_command_if_ok _ _ _ _ _ refl c.with_command-parser-3.ensures c.table_parser.ensures why in
    let labels = adds_command_if_ok _ _ _ _ _ refl c.with_command-parser-4.ensures c.labels_parser.ensures table in
    let normal = adds_command_if_ok _ _ _ _ _ refl c.with_command-parser-5.ensures c.normal_parser.ensures labels in
    let solve = adds_command_if_ok _ _ _ _ _ refl c.with_command-parser-6.ensures c.solve_parser.ensures normal in
    let verify = adds_command_if_ok _ _ _ _ _ refl c.with_command-parser-7.ensures c.verify_parser.ensures solve in
    let replay = adds_command_if_ok _ _ _ _ _ refl c.with_command-parser-8.ensures c.replay_parser.ensures verify in
    let explain = adds_command_if_ok _ _ _ _ _ refl c.with_command-parser-9.ensures c.explain_parser.ensures replay in
    let help = adds_command_if_ok _ _ _ _ _ refl c.with_command-parser-10.ensures c.help_parser.ensures explain in
    let all = adds_command_if_ok _ (Ok c.described-telling.result) _ _ _ refl c.with_command.ensures c.described-telling.ensures help in
    IfOk-weaker c.with_command.result _ _ (λ parser table. record {
      rules = c.as_slice-rules.result;
      boards = c.as_slice-boards.result;
      answers = c.as_slice-answers.result;
      rule_names = ap texts c.as_slice-rules.ensures;
      board_names = ap texts c.as_slice-boards.ensures;
      answer_names = ap texts c.as_slice-answers.ensures;
      table = table;
    }) all
