-- The table of commands by which the words of a line are read.
use Rattle.std.specs.Prelude.{◌≡◌, ℕ, false, true, List, [], ◌∷◌, ◌++◌, Some, codes, pos}
use Rattle.std.specs.Borrow.{Bor}
use Rattle.clap.specs.Simple.{new_shape}
use Rattle.clap.specs.Walk.{texts}
use Rattle.clap.specs.Lexer.{usize_max}
use Rattle.clap.specs.Words.{App, Rule, Shape, Text, new_rule}
use Rattle.clap.specs.declared.builder.action.ArgAction.TheVariants as action
use Rattle.clap.specs.declared.builder.value_parser.ValueParser.TheVariants as value_parser

-- a file, by its place among the words
abbrev pub file_rule : Text → Rule
file_rule id = record (new_rule id) { required = true }

-- the files of a system and a formula
abbrev pub text_rules : List Rule
text_rules = file_rule (codes "SYSTEM") ∷ file_rule (codes "FORMULA") ∷ []

-- files, by their place among the words: one at least
abbrev pub files_rule : Text → Rule
files_rule id = record (file_rule id) { range = Some (record { start_inclusive = 1; end_inclusive = usize_max }) }

-- `--name`
abbrev pub flag_rule : Text → Rule
flag_rule name = record (new_rule name) { long = Some name; action = Some action.SetTrue }

-- `--name` with a value
abbrev pub value_rule : Text → Rule
value_rule name = record (new_rule name) { long = Some name; action = Some action.Set; value_names = 1 }

-- its value is a number from this one to that one
abbrev pub range_rule : Text → (least most : ℕ) → Rule
range_rule name least most = record (value_rule name) { parser = Some (value_parser.Signed (pos least) (pos most)) }

-- names of which one is chosen
abbrev pub Choice : Type 0
Choice = Bor (List (Bor Text))

-- its value is one of these names
abbrev pub choice_rule : Text → Choice → Rule
choice_rule name choice = record (value_rule name) { parser = Some (value_parser.Names choice) }

-- how many workers lift
abbrev pub workers_rule : Rule
workers_rule = range_rule (codes "workers") 1 64

-- that, how many locks their board has, and which board it is
abbrev pub lifting_rules : (boards : Choice) → List Rule
lifting_rules boards = workers_rule ∷ range_rule (codes "shards") 1 256 ∷ choice_rule (codes "board") boards ∷ []

-- the rule of priorities
abbrev pub priorities_rule : (rules : Choice) → Rule
priorities_rule rules = choice_rule (codes "priorities") rules

-- the game, the evidence and the witness go to files
abbrev pub check_rules : (rules boards answers : Choice) → List Rule
check_rules rules boards answers =
    text_rules ++ (flag_rule (codes "plain") ∷ flag_rule (codes "strict") ∷ flag_rule (codes "stats")
    ∷ record (flag_rule (codes "quiet")) { short = Some 113 } ∷ flag_rule (codes "summary") ∷ choice_rule (codes "states") answers
    ∷ range_rule (codes "limit") 1 4294967295 ∷ priorities_rule rules
    ∷ (lifting_rules boards ++ (value_rule (codes "game") ∷ value_rule (codes "evidence") ∷ value_rule (codes "witness") ∷ [])))

-- of the lines of a play 0 tells all
abbrev pub why_rules : (rules boards : Choice) → List Rule
why_rules rules boards =
    text_rules ++ (flag_rule (codes "strict") ∷ range_rule (codes "limit") 0 4294967295 ∷ priorities_rule rules ∷ lifting_rules boards)

abbrev pub table_rules : (rules boards : Choice) → List Rule
table_rules rules boards =
    file_rule (codes "SYSTEM") ∷ files_rule (codes "FORMULA") ∷ flag_rule (codes "plain") ∷ flag_rule (codes "strict") ∷ flag_rule (codes "stats")
    ∷ priorities_rule rules ∷ lifting_rules boards

abbrev pub labels_rules : List Rule
labels_rules = file_rule (codes "SYSTEM") ∷ new_rule (codes "FORMULA") ∷ []

abbrev pub normal_rules : (rules : Choice) → List Rule
normal_rules rules = file_rule (codes "FORMULA") ∷ priorities_rule rules ∷ []

abbrev pub solve_rules : (boards : Choice) → List Rule
solve_rules boards = file_rule (codes "GAME") ∷ value_rule (codes "evidence") ∷ flag_rule (codes "stats") ∷ lifting_rules boards

abbrev pub verify_rules : List Rule
verify_rules = file_rule (codes "GAME") ∷ file_rule (codes "EVIDENCE") ∷ new_rule (codes "OTHER") ∷ []

abbrev pub replay_rules : List Rule
replay_rules = text_rules ++ (file_rule (codes "SCHEDULE") ∷ workers_rule ∷ [])

abbrev pub explain_rules : List Rule
explain_rules = file_rule (codes "CODE") ∷ []

abbrev pub help_rules : List Rule
help_rules = new_rule (codes "COMMAND") ∷ []

-- a command with its arguments
abbrev pub command_shape : (name : Text) → List Rule → Shape
command_shape name rules = record (new_shape name) { rules = rules }

-- the program without its commands: it has a version, and one of its commands has to be named
abbrev pub top_shape : Shape
top_shape = record (new_shape (codes "mucheck")) { has_version = true; subcommand_required = true; disable_help_subcommand = true; is_leaf = false }

-- the program with its commands
abbrev pub mucheck_app : (rules boards answers : Choice) → App
mucheck_app rules boards answers = record {
  top = top_shape;
  subs = command_shape (codes "check") (check_rules rules boards answers)
      ∷ command_shape (codes "why") (why_rules rules boards)
      ∷ command_shape (codes "table") (table_rules rules boards)
      ∷ command_shape (codes "labels") labels_rules
      ∷ command_shape (codes "normal") (normal_rules rules)
      ∷ command_shape (codes "solve") (solve_rules boards)
      ∷ command_shape (codes "verify") verify_rules
      ∷ command_shape (codes "replay") replay_rules
      ∷ command_shape (codes "explain") explain_rules
      ∷ command_shape (codes "help") help_rules
      ∷ command_shape (codes "version") []
      ∷ [];
}

abbrev pub AreRules : Choice → Type 0
AreRules choice = texts choice.now ≡ codes "nested" ∷ codes "dependent" ∷ []

abbrev pub AreBoards : Choice → Type 0
AreBoards choice = texts choice.now ≡ codes "auto" ∷ codes "locked" ∷ codes "packed" ∷ []

abbrev pub AreAnswers : Choice → Type 0
AreAnswers choice = texts choice.now ≡ codes "yes" ∷ codes "no" ∷ []

-- the program's table, wherever the names that are chosen from lie in memory
pub record IsCommandTable (app : App) : Type 0 where
  pub rules : Choice
  pub boards : Choice
  pub answers : Choice
  pub rule_names : AreRules rules
  pub board_names : AreBoards boards
  pub answer_names : AreAnswers answers
  pub table : app ≡ mucheck_app rules boards answers
