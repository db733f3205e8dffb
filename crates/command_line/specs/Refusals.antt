-- For which words a command line is refused.
use Rattle.std.specs.Prelude.{◌≢◌, true, List}
use Rattle.clap.specs.Words.{App, Text, subcommand_of, takes}
use Rattle.command_line.specs.declared.request.Command.{Command}
use Rattle.command_line.specs.CommandLine.{IsAskedFor, IsRead}
use Rattle.command_table.specs.Table.{IsCommandTable}
use Rattle.command_line.specs.Files.{ReadsItOnce}
use Rattle.command_line.specs.Names.{KeepsFiles}

-- The program's table doesn't take the words: they name no command, or don't fit its arguments, or they ask for help or for the version.
pub record IsUntaken (words : List Text) : Type 0 where
  pub app : App
  pub table : IsCommandTable app
  pub untaken : takes app words ≢ true

-- No command is read of the words by the program's table: a file has no name, a number is outside of its limits, forms of the report stand together, or
-- `--plain` beside a file that is to be written.
pub record HaveNoCommand (words : List Text) : Type 0 where
  pub app : App
  pub table : IsCommandTable app
  pub none : (command : Command) → IsRead (subcommand_of app words) command → ⊥

-- Why a line is refused: by its words, or since the command that they ask for would write to a file twice, or to one that it reads, or would read
-- standard input twice.
pub data IsRefusable (words : List Text) : Type 0 where
  untaken : IsUntaken words → IsRefusable words
  incomplete : HaveNoCommand words → IsRefusable words
  destructive : (command : Command) → IsAskedFor words command → (KeepsFiles command → ⊥) → IsRefusable words
  repeated : (command : Command) → IsAskedFor words command → (ReadsItOnce command → ⊥) → IsRefusable words
