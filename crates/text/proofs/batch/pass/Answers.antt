use Rattle.std.proofs.Common.{◌∙◌}
use Rattle.text.proofs.Batched.{Passed-err, Passed-through}
use Rattle.text.proofs.batch.pass.Goals as goal

pub returns-in_err-send : goal.returns-in_err-send
returns-in_err-send g c = Passed-err _ _ _ _ _ _ _ c.from_residual.ensures.0 (c.wait.ensures.kept c.if-wait.false) c.in_err-send.ensures.wrote

pub returns : goal.returns
returns g c =
    let none = c.wait-2.ensures.kept c.if-wait-2.false ∙ c.in_ok-send.ensures.empty in
    Passed-through _ _ _ _ _ _ _ _ none (c.wait.ensures.kept c.if-wait.false) c.in_ok-send.ensures.wrote c.put_line.ensures
