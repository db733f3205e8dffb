use Rattle.std.proofs.Common.{subst}
use Rattle.text.specs.Taken.{Adds}
use Rattle.text.specs.Wrote.{WroteFront}
use Rattle.text.proofs.Writing.{Wrote-after, Wrote-err, WroteFront-after, WroteFront-more}
use Rattle.calculus.specs.Closed.{closed_formula}
use Rattle.requests.specs.Report.{formula_line}
use Rattle.requests.specs.declared.texts.Texts.{Texts}
use Rattle.engines.specs.Play.{formula_played}
use Rattle.engines.proofs.reasons.put_reasons.Goals as goal

pub returns-in_err-write_formula_line : goal.returns-in_err-write_formula_line
returns-in_err-write_formula_line g c =
    let line = subst (λ (t : Texts). WroteFront (g.W.Sink.taken c.args.out.now) (g.W.Sink.taken c.write_formula_line.new.out)
    (formula_line (closed_formula t.formula))) c.deref.ensures c.in_err-write_formula_line.ensures in
    Wrote-err _ _ _ _ c.from_residual.ensures.0 (WroteFront-more _ _ (formula_line (formula_played c.args.found.now)) _ line)

pub returns-in_err-put_verdict : goal.returns-in_err-put_verdict
returns-in_err-put_verdict g c =
    let line = subst (λ (t : Texts). Adds (g.W.Sink.taken c.args.out.now) (g.W.Sink.taken c.write_formula_line.new.out)
    (formula_line (closed_formula t.formula))) c.deref.ensures c.in_ok-write_formula_line.ensures in
    Wrote-err _ _ _ _ c.from_residual-in_err-put_verdict.ensures.0
    (WroteFront-after _ _ _ (formula_line (formula_played c.args.found.now)) _ line (WroteFront-more _ _ _ _ c.in_err-put_verdict.ensures))

pub returns : goal.returns
returns g c =
    let line = subst (λ (t : Texts). Adds (g.W.Sink.taken c.args.out.now) (g.W.Sink.taken c.write_formula_line.new.out)
    (formula_line (closed_formula t.formula))) c.deref.ensures c.in_ok-write_formula_line.ensures in
    Wrote-after _ _ _ (formula_line (formula_played c.args.found.now)) _ _ line (Wrote-after _ _ _ _ _ _ c.in_ok-put_verdict.ensures c.put_story.ensures)
