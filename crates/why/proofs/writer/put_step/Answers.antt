use Rattle.std.proofs.Common.{◌++◌, ap}
use Rattle.calculus.specs.Normal.{normal_nodes}
use Rattle.calculus.specs.View.{action_of}
use Rattle.text.proofs.Writing.{Wrote-after, Wrote-as, Wrote-err, WroteFront-more}
use Rattle.why.specs.Story.{arrow_text, by_text, number_from}
use Rattle.why.proofs.writer.put_step.Goals as goal

pub returns-in_err-put_arrow : goal.returns-in_err-put_arrow
returns-in_err-put_arrow g c = Wrote-err _ _ _ _ c.from_residual.ensures.0 (WroteFront-more _ _ _ _ c.in_err-put_arrow.ensures)

pub returns : goal.returns
returns g c =
    let s = c.args.told.now.story in
    let nodes = normal_nodes s.normal.now in
    let arrow = arrow_text s.system.now.system nodes c.args.from c.args.way.vertex c.args.way.blanks (action_of c.args.action.now) in
    Wrote-as _ _ _ _ _ (ap (λ m. arrow ++ by_text (number_from nodes 1 c.args.told.now.long.now m) m) c.modality_told.ensures)
    (Wrote-after _ _ _ _ _ _ c.in_ok-put_arrow.ensures c.put_by.ensures)
