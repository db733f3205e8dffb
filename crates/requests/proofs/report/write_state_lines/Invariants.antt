use Rattle.std.proofs.Common.{drop}
use Rattle.text.proofs.Writing.{HasWritten}
use Rattle.requests.specs.Report.{state_lines}
use Rattle.requests.proofs.report.write_state_lines.Given as goal

abbrev pub invariant-loop-state : goal.invariant-loop-state
invariant-loop-state g l = HasWritten (g.W.Sink.taken l.initial.out) (g.W.Sink.taken l.out) (state_lines 0 l.marks)
    (state_lines l.state (drop l.state l.marks))
