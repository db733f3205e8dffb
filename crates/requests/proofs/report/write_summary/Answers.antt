use Rattle.std.specs.Prelude.{length, count_by}
use Rattle.calculus.specs.Closed.{closed_formula}
use Rattle.text.proofs.Writing.{Wrote-err, Wrote-after, WroteFront-more, WroteFront-after}
use Rattle.requests.specs.Report.{system_line, formula_line, yes_line}
use Rattle.requests.proofs.report.write_summary.Goals as goal

pub returns-in_err-write_system_line : goal.returns-in_err-write_system_line
returns-in_err-write_system_line g c =
    let l = c.args.lts.now.system in
    Wrote-err _ _ _ _ c.from_residual.ensures.0 (WroteFront-more _ _ (system_line l.states (length l.arrows) l.initial) _ c.in_err-write_system_line.ensures)

pub returns-in_err-write_formula_line : goal.returns-in_err-write_formula_line
returns-in_err-write_formula_line g c =
    let l = c.args.lts.now.system in
    Wrote-err _ _ _ _ c.from_residual-in_err-write_formula_line.ensures.0
    (WroteFront-after _ _ _ (system_line l.states (length l.arrows) l.initial) _ c.in_ok-write_system_line.ensures
    (WroteFront-more _ _ (formula_line (closed_formula c.args.formula.now)) _ c.in_err-write_formula_line.ensures))

pub returns-in_err-write_yes_line : goal.returns-in_err-write_yes_line
returns-in_err-write_yes_line g c =
    let l = c.args.lts.now.system in
    Wrote-err _ _ _ _ c.from_residual-in_err-write_yes_line.ensures.0
    (WroteFront-after _ _ _ (system_line l.states (length l.arrows) l.initial) _ c.in_ok-write_system_line.ensures
    (WroteFront-after _ _ _ (formula_line (closed_formula c.args.formula.now)) _ c.in_ok-write_formula_line.ensures
    (WroteFront-more _ _ (yes_line (count_by (λ mark. mark) c.args.marks.now) l.states) _ c.in_err-write_yes_line.ensures)))

pub returns : goal.returns
returns g c =
    let l = c.args.lts.now.system in
    let marks = c.args.marks.now in
    Wrote-after _ _ _ (system_line l.states (length l.arrows) l.initial) _ _ c.in_ok-write_system_line.ensures
    (Wrote-after _ _ _ (formula_line (closed_formula c.args.formula.now)) _ _ c.in_ok-write_formula_line.ensures
    (Wrote-after _ _ _ (yes_line (count_by (λ mark. mark) marks) l.states) _ _ c.in_ok-write_yes_line.ensures c.write_initial_line.ensures))
