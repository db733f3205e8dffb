-- The files of a command, and which of those that it reads are standard input.
use Rattle.std.specs.Prelude.{ℕ, ◌+◌, ◌≤◌, Bool, false, List, [], ◌∷◌, Option, None, Some, codes, count_by}
use Rattle.std.specs.Borrow.{Bor}
use Rattle.std.specs.Option.{option_map_or}
use Rattle.std.specs.Str.{bytes_eq}
use Rattle.requests.specs.declared.error.CheckFile.{CheckFile}
use Rattle.requests.specs.declared.error.CheckFile.TheVariants.{SolvedGame, System}
use Rattle.requests.specs.declared.request.ReportForm.TheVariants.{Whole}
use Rattle.command_line.specs.declared.request.Command.{Command}
use Rattle.command_line.specs.declared.request.Command.TheVariants.{Check, Labels, Normal, Replay, Solve, Table, Verify, Why}
use Rattle.command_line.specs.declared.request.Outputs.{Outputs}

-- the files that a command reads, but for a table's formulas: the system or the game, the formula, the evidence or the schedule, the other evidence
abbrev pub files_of : Command → List (Option (Bor (List ℕ)))
files_of (Check check outputs) = Some check.system ∷ Some check.formula ∷ None ∷ None ∷ []
files_of (Why why) = Some why.system ∷ Some why.formula ∷ None ∷ None ∷ []
files_of (Table table) = Some table.system ∷ None ∷ None ∷ None ∷ []
files_of (Labels labels) = Some labels.system ∷ labels.formula ∷ None ∷ None ∷ []
files_of (Normal form) = None ∷ Some form.formula ∷ None ∷ None ∷ []
files_of (Solve solve) = Some solve.game ∷ None ∷ None ∷ None ∷ []
files_of (Verify verify) = Some verify.game ∷ None ∷ Some verify.evidence ∷ verify.other ∷ []
files_of (Replay replay) = Some replay.system ∷ Some replay.formula ∷ Some replay.schedule ∷ None ∷ []
files_of _ = None ∷ None ∷ None ∷ None ∷ []

abbrev pub formulas_of : Command → List (Bor (List ℕ))
formulas_of (Table table) = table.formulas.items
formulas_of _ = []

-- what the first of them is, beside files that it writes
abbrev pub main_file_of : Command → CheckFile
main_file_of (Solve solve) = SolvedGame
main_file_of _ = System

-- where its texts go
abbrev pub outputs_of : Command → Outputs
outputs_of (Check check outputs) = outputs
outputs_of (Solve solve) = record { game = None; evidence = solve.evidence; witness = None; report = Whole; stats = solve.stats }
outputs_of _ = record { game = None; evidence = None; witness = None; report = Whole; stats = false }

-- `-` names it
abbrev pub is_standard_input : List ℕ → Bool
is_standard_input name = bytes_eq name (codes "-")

abbrev pub is_input : Option (Bor (List ℕ)) → Bool
is_input file = option_map_or (λ name. is_standard_input name.now) file false

-- one of the files that it reads at most is standard input
abbrev pub ReadsItOnce : Command → Type 0
ReadsItOnce command = count_by is_input (files_of command) + count_by (λ file. is_standard_input file.now) (formulas_of command) ≤ 1
