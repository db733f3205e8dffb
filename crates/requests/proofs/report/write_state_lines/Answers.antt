use Rattle.std.proofs.Common.{subst}
use Rattle.text.proofs.Writing.{HasWritten, HasWritten-none, HasWritten-more, HasWritten-stops, HasWritten-all, Wrote-err}
use Rattle.requests.proofs.Lines.{next_line, no_lines}
use Rattle.requests.proofs.report.write_state_lines.Goals as goal

pub loop-state-init : goal.loop-state-init
loop-state-init g c = HasWritten-none _ _

pub returns-in_err-write_state_line : goal.returns-in_err-write_state_line
returns-in_err-write_state_line g c =
    let next = next_line c.args.marks.now c.loop-state.state c.loop-state-test.true in
    Wrote-err _ _ _ _ c.from_residual.ensures.0 (HasWritten-stops _ _ _ _ _ _
    (subst (HasWritten _ _ _) next c.loop-state.invariant) c.in_err-write_state_line.ensures)

pub loop-state-preserved : goal.loop-state-preserved
loop-state-preserved g c =
    let next = next_line c.args.marks.now c.loop-state.state c.loop-state-test.true in
    HasWritten-more _ _ _ _ _ _ (subst (HasWritten _ _ _) next c.loop-state.invariant) c.in_ok-write_state_line.ensures

pub returns : goal.returns
returns g c = HasWritten-all _ _ _ (subst (HasWritten _ _ _) (no_lines c.args.marks.now c.loop-state.state c.loop-state-test.false) c.loop-state.invariant)
