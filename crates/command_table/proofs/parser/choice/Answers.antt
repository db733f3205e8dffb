use Rattle.std.proofs.Common.{ap, ◌∙◌}
use Rattle.std.specs.Prelude.{Some}
use Rattle.command_table.proofs.Tables.{parses}
use Rattle.command_table.proofs.parser.choice.Goals as goal

pub returns : goal.returns
returns c =
    let given = c.value_parser.ensures.given in
    parses _ _ _ _ c.value_parser.ensures.others (given.1 ∙ ap Some (given.2 ∙ c.from.ensures)) c.valued.ensures
