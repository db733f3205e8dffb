use Rattle.calculus.specs.Closed.{closed_formula}
use Rattle.text.proofs.Writing.{Wrote-err, Wrote-after, WroteFront-more}
use Rattle.requests.specs.Report.{summary}
use Rattle.requests.proofs.report.write_whole.Goals as goal

pub returns-in_err-write_summary : goal.returns-in_err-write_summary
returns-in_err-write_summary g c =
    Wrote-err _ _ _ _ c.from_residual.ensures.0
    (WroteFront-more _ _ (summary c.args.lts.now.system (closed_formula c.args.formula.now) c.args.marks.now) _ c.in_err-write_summary.ensures)

pub returns : goal.returns
returns g c =
    Wrote-after _ _ _ (summary c.args.lts.now.system (closed_formula c.args.formula.now) c.args.marks.now) _ _ c.in_ok-write_summary.ensures
    c.write_state_lines.ensures
