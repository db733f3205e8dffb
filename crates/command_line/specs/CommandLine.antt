-- What the words of a command line ask for, as they are read by the program's table.
use Rattle.std.specs.Prelude.{◌≡◌, ◌≢◌, ◌≤◌, ◌==◌, ℕ, Bool, false, true, not, IfSome, IsTrue, List, [], length, Option, None, Some, codes, if◌then◌else◌, map}
use Rattle.std.specs.Prelude.{option_map, unwrap_or}
use Rattle.std.specs.List.{list_all}
use Rattle.std.specs.Borrow.{Bor}
use Rattle.std.specs.Option.{option_map_or}
use Rattle.std.specs.Str.{bytes_eq}
use Rattle.std.specs.Str.Parse.{IsNumeral, digits_value, without_leading_plus}
use Rattle.clap.specs.Words.{App, Row, Text, all_of, first_of, one_of, subcommand_of, subcommand_rows_of}
use Rattle.clap.specs.declared.parser.matches.ArgMatches.{ArgMatches}
use Rattle.command_table.specs.Table.{IsCommandTable}
use Rattle.calculus.specs.declared.priorities.Priorities.{Priorities}
use Rattle.calculus.specs.declared.priorities.Priorities.TheVariants.{Dependent, Nested}
use Rattle.workers.specs.declared.team.BoardKind.{BoardKind}
use Rattle.workers.specs.declared.team.BoardKind.TheVariants as board
use Rattle.requests.specs.declared.request.Check.{Check as CheckRequest}
use Rattle.requests.specs.declared.request.Options.{Options}
use Rattle.requests.specs.declared.request.ReportForm.{ReportForm}
use Rattle.requests.specs.declared.request.ReportForm.TheVariants.{Whole, Summary, States, Nothing}
use Rattle.requests.specs.declared.request.Table.{Table as TableRequest}
use Rattle.requests.specs.declared.request.Why.{Why as WhyRequest}
use Rattle.command_line.specs.declared.request.Command.{Command}
use Rattle.command_line.specs.declared.request.Command.TheVariants.{Check, Explain, Help, Labels, Normal, Replay, Solve, Table, Verify, Version, Why}
use Rattle.command_line.specs.declared.request.Labels.{Labels as LabelsRequest}
use Rattle.requests.specs.declared.request.Normalize.{Normalize}
use Rattle.command_line.specs.declared.request.Outputs.{Outputs}
use Rattle.requests.specs.declared.request.Replay.{Replay as ReplayRequest}
use Rattle.requests.specs.declared.request.Solve.{Solve as SolveRequest}
use Rattle.requests.specs.declared.request.Verify.{Verify as VerifyRequest}

-- ------------------------------------------------------------------ what is read

-- the argument has this value
abbrev pub has_value : List Row → (id value : Text) → Bool
has_value rows id value = option_map_or (λ text. bytes_eq text value) (first_of id rows) false

-- the option without a value stands
abbrev pub stands : List Row → (id : Text) → Bool
stands rows id = has_value rows id (codes "true")

-- the number that the option gives, if it stands
abbrev pub number_in : List Row → (id : Text) → Option ℕ
number_in rows id = option_map (λ text. digits_value 10 (without_leading_plus text)) (one_of id rows)

-- the text is a numeral of a number between these
pub record IsNumeralWithin (least most : ℕ) (text : Text) : Type 0 where
  pub numeral : IsNumeral 10 (without_leading_plus text)
  pub above : least ≤ digits_value 10 (without_leading_plus text)
  pub below : digits_value 10 (without_leading_plus text) ≤ most

-- what the option gives, if it stands, is one
abbrev pub IsWithin : List Row → (id : Text) → (least most : ℕ) → Type 0
IsWithin rows id least most = IfSome (one_of id rows) (IsNumeralWithin least most)

-- the number between these that the option gives, or else the default
pub record IsNumber (rows : List Row) (id : Text) (least most default n : ℕ) : Type 0 where
  pub value : n ≡ unwrap_or (number_in rows id) default
  pub within : IsWithin rows id least most

-- the rule that is asked for, or else the nested one
abbrev pub priorities_in : List Row → Priorities
priorities_in rows = if has_value rows (codes "priorities") (codes "dependent") then Dependent else Nested

-- the board that is asked for, or else whichever fits
abbrev pub board_in : List Row → BoardKind
board_in rows =
    if has_value rows (codes "board") (codes "locked") then board.Locked
    else (if has_value rows (codes "board") (codes "packed") then board.Packed else board.Auto)

-- the argument names this file, or gives this word; or it stands nowhere where there is none
pub record IsFileIfAny (rows : List Row) (id : Text) (file : Option (Bor Text)) : Type 0 where
  pub stands : first_of id rows ≡ option_map (λ f. f.now) file
  pub named : IfSome file (λ f. f.now ≢ [])

-- it names this file
abbrev pub IsFile : List Row → (id : Text) → Bor Text → Type 0
IsFile rows id file = IsFileIfAny rows id (Some file)

abbrev pub is_named : Text → Bool
is_named name = not (length name == 0)

-- it names these files, in their order
pub record AreFiles (rows : List Row) (id : Text) (files : List (Bor Text)) : Type 0 where
  pub stand : all_of id rows ≡ Some (map (λ f. f.now) files)
  pub named : IsTrue (list_all is_named (map (λ f. f.now) files))

-- the numbers of at most so many states with the answer of this name
abbrev pub states_by : (word : Text) → (most : Option ℕ) → Option ReportForm
states_by word most =
    if bytes_eq word (codes "yes") then Some (States true most)
    else (if bytes_eq word (codes "no") then Some (States false most) else None)

-- the form that a report has where just these options stand, if there is one
abbrev pub form_by : (quiet summary : Bool) → (states : Option Text) → (most : Option ℕ) → Option ReportForm
form_by false false None None = Some Whole
form_by false true None None = Some Summary
form_by false false (Some word) most = states_by word most
form_by true false None None = Some Nothing
form_by _ _ _ _ = None

-- the form of the report that is asked for: where numbers of states are, of one at least
pub record IsReportForm (rows : List Row) (form : ReportForm) : Type 0 where
  pub limit : IsWithin rows (codes "limit") 1 4294967295
  pub by : form_by (stands rows (codes "quiet")) (stands rows (codes "summary")) (first_of (codes "states") rows) (number_in rows (codes "limit")) ≡ Some form

-- the options that are given, and the defaults of the others
pub record AreOptions (rows : List Row) (options : Options) : Type 0 where
  pub priorities : options.priorities ≡ priorities_in rows
  pub workers : IsNumber rows (codes "workers") 1 64 1 options.workers
  pub shards : IsNumber rows (codes "shards") 1 256 16 options.shards
  pub board : options.board ≡ board_in rows

pub record IsCheck (rows : List Row) (check : CheckRequest) : Type 0 where
  pub system : IsFile rows (codes "SYSTEM") check.system
  pub formula : IsFile rows (codes "FORMULA") check.formula
  pub options : AreOptions rows check.options
  pub plain : check.plain ≡ stands rows (codes "plain")
  pub strict : check.strict ≡ stands rows (codes "strict")

pub record IsWhy (rows : List Row) (why : WhyRequest) : Type 0 where
  pub system : IsFile rows (codes "SYSTEM") why.system
  pub formula : IsFile rows (codes "FORMULA") why.formula
  pub options : AreOptions rows why.options
  pub limit : IsNumber rows (codes "limit") 0 4294967295 200 why.limit
  pub strict : why.strict ≡ stands rows (codes "strict")

pub record IsTableRequest (rows : List Row) (table : TableRequest) : Type 0 where
  pub system : IsFile rows (codes "SYSTEM") table.system
  pub formulas : AreFiles rows (codes "FORMULA") table.formulas.items
  pub options : AreOptions rows table.options
  pub plain : table.plain ≡ stands rows (codes "plain")
  pub strict : table.strict ≡ stands rows (codes "strict")
  pub stats : table.stats ≡ stands rows (codes "stats")

pub record AreOutputs (rows : List Row) (outputs : Outputs) : Type 0 where
  pub game : IsFileIfAny rows (codes "game") outputs.game
  pub evidence : IsFileIfAny rows (codes "evidence") outputs.evidence
  pub witness : IsFileIfAny rows (codes "witness") outputs.witness
  pub report : IsReportForm rows outputs.report
  pub stats : outputs.stats ≡ stands rows (codes "stats")

pub record AsksLabels (rows : List Row) (labels : LabelsRequest) : Type 0 where
  pub system : IsFile rows (codes "SYSTEM") labels.system
  pub formula : IsFileIfAny rows (codes "FORMULA") labels.formula

pub record IsNormal (rows : List Row) (form : Normalize) : Type 0 where
  pub formula : IsFile rows (codes "FORMULA") form.formula
  pub priorities : form.priorities ≡ priorities_in rows

pub record IsSolve (rows : List Row) (solve : SolveRequest) : Type 0 where
  pub game : IsFile rows (codes "GAME") solve.game
  pub options : AreOptions rows solve.options
  pub evidence : IsFileIfAny rows (codes "evidence") solve.evidence
  pub stats : solve.stats ≡ stands rows (codes "stats")

pub record IsVerify (rows : List Row) (verify : VerifyRequest) : Type 0 where
  pub game : IsFile rows (codes "GAME") verify.game
  pub evidence : IsFile rows (codes "EVIDENCE") verify.evidence
  pub other : IsFileIfAny rows (codes "OTHER") verify.other

pub record AsksReplay (rows : List Row) (replay : ReplayRequest) : Type 0 where
  pub system : IsFile rows (codes "SYSTEM") replay.system
  pub formula : IsFile rows (codes "FORMULA") replay.formula
  pub schedule : IsFile rows (codes "SCHEDULE") replay.schedule
  pub workers : IsNumber rows (codes "workers") 1 64 2 replay.workers

-- no file is written
abbrev pub IsReportAlone : Outputs → Type 0
IsReportAlone outputs = (outputs.game ≡ None) × (outputs.evidence ≡ None) × (outputs.witness ≡ None)

abbrev pub word_of : Command → Text
word_of (Check check outputs) = codes "check"
word_of (Why why) = codes "why"
word_of (Table table) = codes "table"
word_of (Labels labels) = codes "labels"
word_of (Normal form) = codes "normal"
word_of (Solve solve) = codes "solve"
word_of (Verify verify) = codes "verify"
word_of (Replay replay) = codes "replay"
word_of (Explain code) = codes "explain"
word_of (Help topic) = codes "help"
word_of Version = codes "version"

-- the arguments of the command are these; without a game no file is written
abbrev pub HasArguments : List Row → Command → Type 0
HasArguments rows (Check check outputs) = IsCheck rows check × AreOutputs rows outputs × (IsTrue check.plain → IsReportAlone outputs)
HasArguments rows (Why why) = IsWhy rows why
HasArguments rows (Table table) = IsTableRequest rows table
HasArguments rows (Labels labels) = AsksLabels rows labels
HasArguments rows (Normal form) = IsNormal rows form
HasArguments rows (Solve solve) = IsSolve rows solve
HasArguments rows (Verify verify) = IsVerify rows verify
HasArguments rows (Replay replay) = AsksReplay rows replay
HasArguments rows (Explain code) = IsFile rows (codes "CODE") code
HasArguments rows (Help topic) = IsFileIfAny rows (codes "COMMAND") topic
HasArguments rows Version = Unit {0}

-- the command of this name, as its arguments ask
abbrev pub IsCommand : (name : Text) → List Row → Command → Type 0
IsCommand name rows command = (name ≡ word_of command) × HasArguments rows command

-- the command that was read, of which there is one
abbrev pub IsRead : Option (Text × List Row) → Command → Type 0
IsRead None command = ⊥
IsRead (Some named) command = IsCommand named.0 named.1 command

-- these matches are what the program's table finds in the words
pub record AreMatchesOf (words : List Text) (matches : ArgMatches) : Type 0 where
  pub app : App
  pub table : IsCommandTable app
  pub rows : subcommand_rows_of matches ≡ subcommand_of app words

-- The command is what the words ask for, read by the program's table: the first word is the program's own name.
pub record IsAskedFor (words : List Text) (command : Command) : Type 0 where
  pub app : App
  pub table : IsCommandTable app
  pub read : IsRead (subcommand_of app words) command
