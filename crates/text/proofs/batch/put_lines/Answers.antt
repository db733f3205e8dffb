use Rattle.std.proofs.Common.{arith}
use Rattle.text.proofs.Writing.{Wrote-err}
use Rattle.text.proofs.Batched.{HasWritten-passed, HasWritten-halts, Wrote-last, next_line, no_line}
use Rattle.text.proofs.batch.put_lines.Goals as goal

pub returns-in_err-pass : goal.returns-in_err-pass
returns-in_err-pass g c =
    let next = next_line (g.L.Lines.line c.args.lines.now) c.loop-number.number c.count-number-end.result (omega arith) in
    record { wrote = Wrote-err _ _ _ _ c.from_residual.ensures.0 (HasWritten-halts _ _ _ _ _ _ _ _ next c.loop-number.invariant c.in_err-pass.ensures) }

pub loop-number-preserved : goal.loop-number-preserved
loop-number-preserved g c =
    let next = next_line (g.L.Lines.line c.args.lines.now) c.loop-number.number c.count-number-end.result (omega arith) in
    HasWritten-passed _ _ _ _ _ _ _ _ _ next c.loop-number.invariant c.in_ok-pass.ensures

pub returns : goal.returns
returns g c =
    let none = no_line (g.L.Lines.line c.args.lines.now) c.loop-number.number c.count-number-end.result (omega arith) in
    record { wrote = Wrote-last _ _ _ _ _ _ _ none c.loop-number.invariant c.send.ensures.wrote }
