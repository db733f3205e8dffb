use Rattle.std.proofs.Common.{◌∙◌, ap}
use Rattle.formula.specs.Noted.{knows}
use Rattle.formula.proofs.Scanning.{found_absent, scan}
use Rattle.formula.proofs.absent.first_absent.Goals as goal

pub returns-in-Ok-known_in : goal.returns-in-Ok-known_in
returns-in-Ok-known_in c =
    let known = knows c.in-Ok-known_in.known in
    found_absent c.args.system.now c.all-transitions.result.now known c.args.text.now c.in-Ok.tokens.items c.first_in.result c.in-Ok.ensures
    c.in-Ok-known_in.ensures c.labels-labels.ensures.used c.all-transitions.ensures.arrows c.all-transitions.ensures.inside
    (c.first_in.ensures ∙ ap (scan known _) c.deref.ensures.value)
