use Rattle.std.proofs.Common.{refl}
use Rattle.systems.specs.Numbered.{arrow_of}
use Rattle.text.proofs.Writing.{Wrote-after, Wrote-as, Wrote-err, WroteFront-after, WroteFront-more}
use Rattle.witness.specs.Drawing.{edge_front, escaped}
use Rattle.witness.proofs.Drawn.{edge_is}
use Rattle.witness.proofs.drawing.put_edge.Goals as goal

pub returns-in_err-put_pieces : goal.returns-in_err-put_pieces
returns-in_err-put_pieces g c =
    let arrow = arrow_of c.args.system.now.labels c.args.transition in
    Wrote-as _ _ _ _ _ (edge_is c.from.result c.from-2.result arrow.label arrow c.from.ensures c.from-2.ensures refl)
    (Wrote-err _ _ _ _ c.from_residual.ensures.0 (WroteFront-more _ _ (edge_front c.from.result c.from-2.result) _ c.in_err-put_pieces.ensures))

pub returns-in_err-put_label : goal.returns-in_err-put_label
returns-in_err-put_label g c =
    let front = edge_front c.from.result c.from-2.result in
    Wrote-as _ _ _ _ _ (edge_is c.from.result c.from-2.result c.label.result.bytes.now
    (arrow_of c.args.system.now.labels c.args.transition) c.from.ensures c.from-2.ensures c.label.ensures)
    (Wrote-err _ _ _ _ c.from_residual-in_err-put_label.ensures.0
    (WroteFront-after _ _ _ front _ c.in_ok-put_pieces.ensures (WroteFront-more _ _ (escaped c.label.result.bytes.now) _ c.in_err-put_label.ensures)))

pub returns : goal.returns
returns g c =
    let front = edge_front c.from.result c.from-2.result in
    Wrote-as _ _ _ _ _ (edge_is c.from.result c.from-2.result c.label.result.bytes.now
    (arrow_of c.args.system.now.labels c.args.transition) c.from.ensures c.from-2.ensures c.label.ensures)
    (Wrote-after _ _ _ front _ _ c.in_ok-put_pieces.ensures (Wrote-after _ _ _
    (escaped c.label.result.bytes.now) _ _ c.in_ok-put_label.ensures c.put.ensures.wrote))
