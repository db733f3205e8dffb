use Rattle.std.proofs.Common.{map}
use Rattle.std.specs.List.{flat_map}
use Rattle.systems.specs.Numbered.{arrow_of}
use Rattle.text.proofs.Writing.{Wrote-after, Wrote-as, Wrote-err, WroteFront-after, WroteFront-more}
use Rattle.witness.specs.Drawing.{edge_line, head_text}
use Rattle.witness.proofs.Drawn.{drawing_is}
use Rattle.witness.proofs.drawing.write_drawing.Goals as goal

pub returns-in_err-put_head : goal.returns-in_err-put_head
returns-in_err-put_head g c =
    let whole = drawing_is c.args.system.now c.initial.result c.args.part.now c.initial.ensures.value in
    record {
      wrote = Wrote-as _ _ _ _ _ whole (Wrote-err _ _ _ _ c.from_residual.ensures.0
          (WroteFront-more _ _ (head_text c.initial.result) _ c.in_err-put_head.ensures));
    }

pub returns-in_err-put_edges : goal.returns-in_err-put_edges
returns-in_err-put_edges g c =
    let whole = drawing_is c.args.system.now c.initial.result c.args.part.now c.initial.ensures.value in
    let edges = flat_map edge_line (map (arrow_of c.args.system.now.labels) c.args.part.now) in
    record {
      wrote = Wrote-as _ _ _ _ _ whole (Wrote-err _ _ _ _ c.from_residual-in_err-put_edges.ensures.0
          (WroteFront-after _ _ _ (head_text c.initial.result) _ c.in_ok-put_head.ensures (WroteFront-more _ _ edges _ c.in_err-put_edges.ensures)));
    }

pub returns : goal.returns
returns g c =
    let whole = drawing_is c.args.system.now c.initial.result c.args.part.now c.initial.ensures.value in
    let edges = flat_map edge_line (map (arrow_of c.args.system.now.labels) c.args.part.now) in
    record {
      wrote = Wrote-as _ _ _ _ _ whole (Wrote-after _ _ _ (head_text c.initial.result) _ _ c.in_ok-put_head.ensures
          (Wrote-after _ _ _ edges _ _ c.in_ok-put_edges.ensures c.put.ensures.wrote));
    }
