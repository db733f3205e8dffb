-- What the name of a file says that stands in a list.
use Rattle.std.specs.Prelude.{Option, option_map}
use Rattle.clap.specs.Words.{Text}
use Rattle.command_line.specs.declared.names.Named.{Named}

-- the file's name, if it is asked for
abbrev pub name_of : Named → Option Text
name_of named = option_map (λ name. name.now) named.name
