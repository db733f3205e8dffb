use Rattle.std.proofs.Common.{◌∙◌, sym}
use Rattle.lts.proofs.Gathering.{label_here}
use Rattle.lts.proofs.recent.Recent.number.Goals as goal

pub returns-in-Some : goal.returns-in-Some
returns-in-Some c =
    label_here c.args.labels.now c.args.label.now _ c.in-Some.found.now c.as_slice.result.now
    c.in-Some.ensures.lookup.3.0 (c.in-Some.ensures.lookup.3.1 _) c.as_slice.ensures.value (sym c.eq.ensures ∙ c.if-eq.true)
