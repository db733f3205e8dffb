use Rattle.clap.specs.Words.{app_of}
use Rattle.command_line.proofs.Refusals.{is_untaken}
use Rattle.command_table.proofs.Tables.{table_is_simple}
use Rattle.command_line.proofs.line.matches_of.Goals as goal

pub returns-in-Ok-try_get_matches_from-clause-found : goal.returns-in-Ok-try_get_matches_from-clause-found
returns-in-Ok-try_get_matches_from-clause-found c =
    let table = c.in-Ok.ensures in
    record {
      app = app_of c.in-Ok.parser;
      table = table;
      rows = (c.in-Ok-try_get_matches_from.ensures.matches (table_is_simple _ table)).1;
    }

pub returns-in-Err-clause-refused : goal.returns-in-Err-clause-refused
returns-in-Err-clause-refused c = is_untaken _ (app_of c.in-Ok.parser) c.in-Ok.ensures c.refusal.result c.refusal.ensures.line
    (λ taken. c.refusal.ensures.memory (c.in-Err.ensures.passes taken))
