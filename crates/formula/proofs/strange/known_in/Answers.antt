use Rattle.std.proofs.Common.{ap, ◌∙◌, arith}
use Rattle.systems.specs.Numbered.{label_at}
use Rattle.formula.specs.Noted.{knows}
use Rattle.formula.proofs.Noting.{known_more}
use Rattle.formula.proofs.strange.known_in.Goals as goal

pub loop-number-preserved : goal.loop-number-preserved
loop-number-preserved c t =
    let labels = c.args.system.now.labels in
    known_more labels c.loop-number.number t (knows c.loop-number.known t) (knows c.add.new.self t) c.label.result.bytes.now (omega arith)
    (c.label.ensures ∙ ap (label_at labels) (omega arith)) (c.loop-number.invariant t) (c.in_ok-add.ensures t)
