use Rattle.std.proofs.Common.{◌≡◌, ◌≤◌, true, false, get_or, arith, subst}
use Rattle.text.proofs.Writing.{HasWritten, HasWritten-more, HasWritten-stops, Wrote-err}
use Rattle.requests.specs.Report.{is_mark}
use Rattle.requests.proofs.Lines.{next_number}
use Rattle.requests.proofs.report.write_first_numbers.Goals as goal

pub returns-in_err-write_number_line : goal.returns-in_err-write_number_line
returns-in_err-write_number_line g c =
    let some : 1 ≤ c.loop-state.left = omega (arith, c.if-left-eq0.false) in
    let is : is_mark c.args.wanted (get_or c.args.marks.now c.loop-state.state false) ≡ true = grind arith in
    let next = next_number c.args.wanted c.args.marks.now c.loop-state.state c.loop-state.left c.loop-state-test.true some is in
    Wrote-err _ _ _ _ c.from_residual.ensures.0 (HasWritten-stops _ _ _ _ _ _
    (subst (HasWritten _ _ _) next c.loop-state.invariant) c.in_err-write_number_line.ensures)

pub loop-state-preserved : goal.loop-state-preserved
loop-state-preserved g c =
    let some : 1 ≤ c.loop-state.left = omega (arith, c.if-left-eq0.false) in
    let is : is_mark c.args.wanted (get_or c.args.marks.now c.loop-state.state false) ≡ true = grind arith in
    let next = next_number c.args.wanted c.args.marks.now c.loop-state.state c.loop-state.left c.loop-state-test.true some is in
    HasWritten-more _ _ _ _ _ _ (subst (HasWritten _ _ _) next c.loop-state.invariant) c.in_ok-write_number_line.ensures
