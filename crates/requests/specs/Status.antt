-- The exit status of the program.
use Rattle.std.specs.Prelude.{ℕ, Bool, true, false, Result, Ok, Err}
use Rattle.lts.specs.declared.error.AutError.{AutError}
use Rattle.lts.specs.declared.error.AutError.TheVariants as aut
use Rattle.formula.specs.declared.error.FormulaError.{FormulaError}
use Rattle.formula.specs.declared.error.FormulaError.TheVariants as formula
use Rattle.normal.specs.declared.error.NormalError.{NormalError}
use Rattle.normal.specs.declared.error.NormalError.TheVariants as normal
use Rattle.game.specs.declared.error.BuildError.{BuildError}
use Rattle.game.specs.declared.error.BuildError.TheVariants as game
use Rattle.pgsolver.specs.declared.error.PgError.{PgError}
use Rattle.pgsolver.specs.declared.error.PgError.TheVariants as pg
use Rattle.evidence.specs.declared.error.EvidenceError.{EvidenceError}
use Rattle.evidence.specs.declared.error.EvidenceError.TheVariants as evidence
use Rattle.tables.specs.declared.error.TableError.{TableError}
use Rattle.tables.specs.declared.error.TableError.TheVariants as table
use Rattle.liftcore.specs.declared.error.ScheduleError.{ScheduleError}
use Rattle.liftcore.specs.declared.error.ScheduleError.TheVariants as schedule
use Rattle.requests.specs.declared.error.MuError.{MuError}
use Rattle.requests.specs.declared.error.MuError.TheVariants.{Arguments, File, Read, Memory, System, Formula, Normal, Build, Game, Evidence, Table, Solve}
use Rattle.requests.specs.declared.error.MuError.TheVariants.{NoLabel, Schedule, Write}

-- 2 where the text is at fault, 3 where a read or memory failed
abbrev pub system_status : AutError → ℕ
system_status (aut.Fault fault line) = 2
system_status aut.Read = 3
system_status aut.Memory = 3

abbrev pub formula_status : FormulaError → ℕ
formula_status (formula.Fault fault offset) = 2
formula_status formula.Memory = 3

abbrev pub normal_status : NormalError → ℕ
normal_status normal.TooManyNodes = 2
normal_status normal.PriorityTooGreat = 2
normal_status normal.Memory = 3

abbrev pub build_status : BuildError → ℕ
build_status game.TooManyVertices = 2
build_status game.Memory = 3

abbrev pub game_status : PgError → ℕ
game_status (pg.Fault fault line) = 2
game_status pg.Read = 3
game_status pg.Memory = 3

abbrev pub evidence_status : EvidenceError → ℕ
evidence_status (evidence.Fault fault line) = 2
evidence_status evidence.Read = 3
evidence_status evidence.Memory = 3

abbrev pub table_status : TableError → ℕ
table_status table.TooManyRanks = 2
table_status table.Memory = 3
table_status table.NoSeat = 3

abbrev pub schedule_status : ScheduleError → ℕ
schedule_status (schedule.Fault fault line) = 2
schedule_status schedule.Memory = 3

abbrev pub error_status : MuError → ℕ
error_status (Arguments error) = 2
error_status File = 3
error_status Read = 3
error_status Memory = 3
error_status (System error) = system_status error
error_status (Formula error) = formula_status error
error_status (NoLabel offset) = 2
error_status (Normal error) = normal_status error
error_status (Build error) = build_status error
error_status (Game error) = game_status error
error_status (Evidence error) = evidence_status error
error_status (Table error) = table_status error
error_status (Solve error) = 3
error_status (Schedule error) = schedule_status error
error_status (Write error) = 3

-- 0 for yes and 1 for no
abbrev pub status_of : Result Bool MuError → ℕ
status_of (Ok true) = 0
status_of (Ok false) = 1
status_of (Err error) = error_status error
