-- What the makers of parsers make.
use Rattle.std.specs.Prelude.{◌≡◌, ℤ, false, List, fold, pos}
use Rattle.std.specs.Int.{int_max, int_min}
use Rattle.clap.specs.Words.{App, Rule, Text, app_of, new_app, rule_of, with_rule}
use Rattle.clap.specs.Values.{signed_between}
use Rattle.clap.specs.declared.builder.arg.Arg.{Arg}
use Rattle.clap.specs.declared.builder.value_parser.ValueParser.{ValueParser}
use Rattle.clap.specs.declared.builder.command.Command.{Command as Parser}

-- the argument is read by this rule, in its own command alone
pub record HasRule (rule : Rule) (arg : Arg) : Type 0 where
  pub same : rule_of arg ≡ rule
  pub local : arg.global ≡ false

-- the numbers of 32 bits from this one to that one
abbrev pub within : (least most : ℤ) → ValueParser
within least most = signed_between (int_max (pos 0) least) (int_min (pos 4294967295) most)

-- the parser reads words by this table
abbrev pub ReadsBy : (table : App) → Parser → Type 0
ReadsBy table parser = app_of parser ≡ table

-- the table with these arguments more
abbrev pub with_rules : App → List Rule → App
with_rules table rules = fold with_rule table rules

-- a command with these arguments, as a table of its own
abbrev pub command_app : (name : Text) → List Rule → App
command_app name rules = with_rules (new_app name) rules

-- the parser `new` reads by the table of `old` with these arguments more
abbrev pub AddsRules : (old : Parser) → List Rule → (new : Parser) → Type 0
AddsRules old rules new = app_of new ≡ with_rules (app_of old) rules
