use Rattle.std.proofs.Common.{drop, take}
use Rattle.text.proofs.Writing.{HasWritten}
use Rattle.requests.specs.Report.{number_lines, numbers_with}
use Rattle.requests.proofs.report.write_first_numbers.Given as goal

abbrev pub invariant-loop-state : goal.invariant-loop-state
invariant-loop-state g l = HasWritten (g.W.Sink.taken l.initial.out) (g.W.Sink.taken l.out) (number_lines (take l.most (numbers_with l.wanted 0 l.marks)))
    (number_lines (take l.left (numbers_with l.wanted l.state (drop l.state l.marks))))
