use Rattle.std.proofs.Common.{◌≡◌, ap, ◌∙◌}
use Rattle.std.proofs.lemmas.Int.{to_z-of_z}
use Rattle.std.specs.Prelude.{Some}
use Rattle.command_table.specs.Parsers.{within}
use Rattle.command_table.proofs.Tables.{parses}
use Rattle.command_table.proofs.parser.number.Goals as goal
use mir.Syntax.{w64}

pub returns : goal.returns
returns c =
    let least = to_z-of_z w64 c.args.least (record { sfits = c.well_formed.1.1.1.1.0 }) in
    let most = to_z-of_z w64 c.args.most (record { sfits = c.well_formed.1.1.1.1.1.0 }) in
    let numbers : c.range-numbers.result ≡ within c.args.least c.args.most = rw
    (c.value_parser.ensures, c.new.ensures.start, c.new.ensures.end, least, most) at c.range-numbers.ensures in
    let given = c.value_parser-2.ensures.given in
    parses _ _ _ _ c.value_parser-2.ensures.others (given.1 ∙ ap Some (given.2 ∙ numbers)) c.valued.ensures
