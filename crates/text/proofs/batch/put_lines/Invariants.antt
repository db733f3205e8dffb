use Rattle.std.proofs.Common.{◌++◌, ◌-◌}
use Rattle.text.specs.Wrote.{HasWritten, lines_from}
use Rattle.text.proofs.batch.put_lines.Given as goal

-- What waits, and then the lines from this one on, are left.
abbrev pub invariant-loop-number : goal.invariant-loop-number
invariant-loop-number g l =
    let line = g.L.Lines.line l.lines in
    HasWritten (g.W.Sink.taken l.initial.writer) (g.W.Sink.taken l.writer) (lines_from line 0 (g.L.Lines.count l.lines))
    (l.batch.bytes.items ++ lines_from line l.number (l.number-end - l.number))
