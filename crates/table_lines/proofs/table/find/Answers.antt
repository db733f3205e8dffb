use Rattle.std.proofs.Common.{◌≡◌, ◌∙◌, subst, take}
use Rattle.std.specs.Prelude.{MatchResult}
use Rattle.calculus.specs.Closed.{closed_formula}
use Rattle.requests.proofs.Readings.{at_known, was_err}
use Rattle.requests.specs.Texts.{IsFormulaOf}
use Rattle.table_lines.specs.Table.{IsFound, IsRefused, way_by}
use Rattle.table_lines.proofs.Telling.{unread, whole_of}
use Rattle.table_lines.proofs.table.find.Goals as goal

pub returns-clause-finds : goal.returns-clause-finds
returns-clause-finds g c = λ text known.
    let request = c.args.request.now in
    let way = way_by request.options request.plain in
    let l = c.args.system.now.system in
    let front = at_known (λ all. c.in_ok-front.front.items ≡ take 1048577 all) (g.S.Source.remaining c.args.formula) text known c.in_ok-front.ensures.front in
    let spelled = c.in_ok-formula.ensures.spelled text (c.deref.ensures.value ∙ front) in
    subst (λ t. IsFormulaOf t (closed_formula c.in_ok-formula.formula) → MatchResult c.find_known.result (IsFound request.strict way l t) (IsRefused request.strict way l t))
    (c.deref-2.ensures.value ∙ whole_of c.in_ok-front.front.items text _ front spelled) c.find_known.ensures.finds spelled

pub returns-in_err-formula-clause-finds : goal.returns-in_err-formula-clause-finds
returns-in_err-formula-clause-finds g c = λ text known.
    let request = c.args.request.now in
    let front = at_known (λ all. c.in_ok-front.front.items ≡ take 1048577 all) (g.S.Source.remaining c.args.formula) text known c.in_ok-front.ensures.front in
    rw (was_err _ _ c.from_residual-in_err-formula.ensures.1) (unread request.strict (way_by request.options request.plain) c.args.system.now.system text
    c.in_err-formula.field-0.0 (c.in_err-formula.ensures.refusal text (c.deref.ensures.value ∙ front)))
