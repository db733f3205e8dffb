-- What an argument more, and a command more, make of a table.
use Rattle.std.proofs.Common.{◌≡◌, ◌∙◌, ap, ap₂, refl, sym, ℕ, Bool, true, false, true≢false, not, ◌&&◌, List, Some, None}
use Rattle.std.proofs.Common.{Result, Ok, Err}
use Rattle.std.specs.Prelude.{IfOk, IsOkAnd, IsSomeAnd, Option}
use Rattle.std.specs.Borrow.{Bor}
use Rattle.clap.specs.Words.{is_simple}
use Rattle.clap.specs.Words.{AddsArg, AddsSubcommand, App, Rule, Text, app_of, rule_of, with_rule, with_subcommand}
use Rattle.clap.specs.declared.builder.arg.Arg.{Arg}
use Rattle.clap.specs.declared.builder.command.Command.{Command as Parser}
use Rattle.clap.specs.declared.builder.range.ValueRange.{ValueRange}
use Rattle.clap.specs.declared.builder.value_parser.ValueParser.{ValueParser}
use Rattle.command_table.specs.Table.{IsCommandTable}
use Rattle.command_table.specs.Parsers.{AddsRules, HasRule, ReadsBy, with_rules}

-- ------------------------------------------------------------------ arguments

-- help changes no rule
pub helped : (old new : Arg) (text : Bor Text) (rule : Rule) → new ≡ record old { help = Some text } → HasRule rule old → HasRule rule new
helped old new text rule is has = record {
  same = ap rule_of is ∙ has.same;
  local = ap (λ (a : Arg). a.global) is ∙ has.local;
}

-- a parser of values changes the rule's parser alone
pub parses : (old new : Arg) (parser : ValueParser) (rule : Rule) → new ≡ record old { value_parser = new.value_parser } → new.value_parser ≡ Some parser
    → HasRule rule old
    → HasRule (record rule { parser = Some parser }) new
parses old new parser rule is given has = record {
  same = ap rule_of is ∙ ap₂ (λ (r : Rule) p. record r { parser = p }) has.same given;
  local = ap (λ (a : Arg). a.global) is ∙ has.local;
}

-- a letter changes the rule's letter alone
pub lettered : (old new : Arg) (letter : ℕ) (rule : Rule) → new ≡ record old { short = Some letter } → HasRule rule old
    → HasRule (record rule { short = Some letter }) new
lettered old new letter rule is has = record {
  same = ap rule_of is ∙ ap (λ (r : Rule). record r { short = Some letter }) has.same;
  local = ap (λ (a : Arg). a.global) is ∙ has.local;
}

some_and : {X : Type 0} (o : Option X) (x : X) → IsSomeAnd o (λ y. y ≡ x) → o ≡ Some x
some_and None x h = absurd h
some_and (Some y) x h = ap Some h

-- how many values an argument has changes the rule's range alone
pub ranged : (old new : Arg) (range : ValueRange) (rule : Rule) → new ≡ record old { num_vals = new.num_vals } → IsSomeAnd new.num_vals (λ r. r ≡ range)
    → HasRule rule old
    → HasRule (record rule { range = Some range }) new
ranged old new range rule is given has = record {
  same = ap rule_of is ∙ ap₂ (λ (r : Rule) p. record r { range = p }) has.same (some_and new.num_vals range given);
  local = ap (λ (a : Arg). a.global) is ∙ has.local;
}

-- ------------------------------------------------------------------ commands

-- one argument more
pub adds_rule : (old : Parser) (arg : Arg) (new : Parser) (table : App) (rule : Rule) → AddsArg old arg new → HasRule rule arg → ReadsBy table old
    → ReadsBy (with_rule table rule) new
adds_rule old arg new table rule added has reads = added.shape has.local ∙ ap₂ with_rule reads has.same

-- several more
pub adds_rules : (old new : Parser) (table : App) (rules : List Rule) → AddsRules old rules new → ReadsBy table old → ReadsBy (with_rules table rules) new
adds_rules old new table rules adds reads = adds ∙ ap (λ t. with_rules t rules) reads

-- one argument more, where there was memory for it
pub adds_rule_if_ok : {E : Type 0} (old : Result Parser E) (arg : Arg) (new : Result Parser E) (table : App) (rule : Rule)
    → IfOk new (λ n. IsOkAnd old (λ o. AddsArg o arg n)) → HasRule rule arg → IfOk old (ReadsBy table) → IfOk new (ReadsBy (with_rule table rule))
adds_rule_if_ok old arg (Err e) table rule added has reads = tt
adds_rule_if_ok (Err e) arg (Ok n) table rule added has reads = absurd added
adds_rule_if_ok (Ok o) arg (Ok n) table rule added has reads = adds_rule o arg n table rule added has reads

-- several more, where there was memory for them
pub adds_rules_if_ok : {E : Type 0} (old new : Result Parser E) (table : App) (rules : List Rule)
    → IfOk new (λ n. IsOkAnd old (λ o. AddsRules o rules n)) → IfOk old (ReadsBy table) → IfOk new (ReadsBy (with_rules table rules))
adds_rules_if_ok old (Err e) table rules adds reads = tt
adds_rules_if_ok (Err e) (Ok n) table rules adds reads = absurd adds
adds_rules_if_ok (Ok o) (Ok n) table rules adds reads = adds_rules o n table rules adds reads

-- a parser reads by its own table, where there is one
pub reads_itself : {E : Type 0} (first : Result Parser E) → IfOk first (λ o. IsOkAnd first (λ f. ReadsBy (app_of f) o))
reads_itself (Ok f) = refl
reads_itself (Err e) = tt

-- one argument more, where what was begun with and all since had memory
pub adds_after : {E : Type 0} (first old : Result Parser E) (arg : Arg) (new : Result Parser E) (table : Parser → App) (rule : Rule)
    → IfOk new (λ n. IsOkAnd old (λ o. AddsArg o arg n)) → HasRule rule arg → IfOk old (λ o. IsOkAnd first (λ f. ReadsBy (table f) o))
    → IfOk new (λ n. IsOkAnd first (λ f. ReadsBy (with_rule (table f) rule) n))
adds_after first old arg (Err e) table rule added has reads = tt
adds_after first (Err e) arg (Ok n) table rule added has reads = absurd added
adds_after (Err e) (Ok o) arg (Ok n) table rule added has reads = absurd reads
adds_after (Ok f) (Ok o) arg (Ok n) table rule added has reads = adds_rule o arg n (table f) rule added has reads

third : (a b c d : Bool) → (a && (not b && (not c && d))) ≡ true → c ≡ false
third true false false d h = refl
third true false true d h = absurd (true≢false (sym h))
third true true c d h = absurd (true≢false (sym h))
third false b c d h = absurd (true≢false (sym h))

-- one command more: a plain one hands no argument down
pub adds_command : (old sub new : Parser) (table command : App) → command.top.is_plain ≡ true → AddsSubcommand old sub new → ReadsBy command sub
    → ReadsBy table old → ReadsBy (with_subcommand table command.top) new
adds_command old sub new table command plain added below reads =
    added.shape (third _ _ _ _ (ap (λ (a : App). a.top.is_plain) below ∙ plain)) ∙ ap₂ with_subcommand reads (ap (λ (a : App). a.top) below)

-- one command more, where there was memory for both
pub adds_command_if_ok : {E : Type 0} (old sub new : Result Parser E) (table command : App) → command.top.is_plain ≡ true
    → IfOk new (λ n. IsOkAnd old (λ o. IsOkAnd sub (λ s. AddsSubcommand o s n))) → IfOk sub (ReadsBy command) → IfOk old (ReadsBy table)
    → IfOk new (ReadsBy (with_subcommand table command.top))
adds_command_if_ok old sub (Err e) table command plain added below reads = tt
adds_command_if_ok (Err e) sub (Ok n) table command plain added below reads = absurd added
adds_command_if_ok (Ok o) (Err e) (Ok n) table command plain added below reads = absurd added
adds_command_if_ok (Ok o) (Ok s) (Ok n) table command plain added below reads = adds_command o s n table command plain added below reads

-- of the program's table the matches are told
pub table_is_simple : (app : App) → IsCommandTable app → is_simple app ≡ true
table_is_simple app is = ap is_simple is.table
