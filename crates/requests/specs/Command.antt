-- What a command has.
use Rattle.std.specs.Prelude.{if◌then◌else◌, Some, None, false}
use Rattle.requests.specs.declared.request.Check.{Check as TheCheck}
use Rattle.requests.specs.declared.request.ReportForm.{ReportForm}
use Rattle.requests.specs.declared.request.Wanted.{Wanted}
use Rattle.requests.specs.Check.{Way, BySets, ByGame}

-- `--plain` asks for sets of states, and else a rule of priorities and a board are given.
abbrev pub way_of : TheCheck → Way
way_of check = if check.plain then BySets else ByGame check.options.priorities (Some check.options.board)

-- nothing before the report, which has this form
abbrev pub report_alone : ReportForm → Wanted
report_alone form = record { game = false; evidence = false; witness = None; report = form }

-- With sets of states there is the report alone.
abbrev pub wanted_in : TheCheck → Wanted → Wanted
wanted_in check wanted = if check.plain then report_alone wanted.report else wanted
