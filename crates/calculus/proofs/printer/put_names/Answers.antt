use Rattle.std.proofs.Common.{◌++◌, ◌∙◌, ap}
use Rattle.systems.specs.Label.{texts}
use Rattle.text.proofs.Writing.{Wrote-err, Wrote-as, Wrote-after, WroteFront-more}
use Rattle.calculus.specs.Canon.{barred}
use Rattle.calculus.proofs.Printing.{names_text-cons}
use Rattle.calculus.proofs.printer.put_names.Goals as goal

pub returns-in_err-put : goal.returns-in_err-put
returns-in_err-put g c =
    let whole = ap (λ bytes. bytes ++ barred (texts c.in-Some.others.now)) c.deref.ensures.value
    ∙ names_text-cons c.in-Some.first.now.items (texts c.in-Some.others.now) in
    rw c.in-Some.ensures.cases.0 (Wrote-as _ _ _ _ _ whole (Wrote-err _ _ _ _ c.from_residual.ensures.0 (WroteFront-more _ _ _ _ c.in_err-put.ensures.wrote)))

pub returns : goal.returns
returns g c =
    let whole = ap (λ bytes. bytes ++ barred (texts c.in-Some.others.now)) c.deref.ensures.value
    ∙ names_text-cons c.in-Some.first.now.items (texts c.in-Some.others.now) in
    rw c.in-Some.ensures.cases.0 (Wrote-as _ _ _ _ _ whole (Wrote-after _ _ _ _ _ _ c.in_ok-put.ensures.wrote c.put_barred.ensures))
