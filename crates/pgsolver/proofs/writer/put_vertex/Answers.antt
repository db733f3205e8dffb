use Rattle.std.proofs.Common.{arith, sym, ◌∙◌}
use Rattle.text.proofs.Writing.{Wrote-err, Wrote-as, Wrote-after, WroteFront-more, WroteFront-after}
use Rattle.pgsolver.proofs.Lines.{line_read}
use Rattle.pgsolver.proofs.writer.put_vertex.Goals as goal

pub returns-in_err-put_front : goal.returns-in_err-put_front
returns-in_err-put_front g c = λ x there.
    Wrote-as _ _ _ _ _ (line_read _ _ c.args.v _ x c.owner.result c.priority.result c.successors-successors.result.now there c.named-named.ensures
    c.owner.ensures c.priority.ensures c.successors-successors.ensures)
    (Wrote-err _ _ _ _ c.from_residual.ensures.0 (WroteFront-more _ _ _ _ c.in_err-put_front.ensures))

pub returns-in_err-put_successors : goal.returns-in_err-put_successors
returns-in_err-put_successors g c = λ x there.
    Wrote-as _ _ _ _ _ (line_read _ _ c.args.v _ x c.owner.result c.priority.result c.successors-successors.result.now there c.named-named.ensures
    c.owner.ensures c.priority.ensures c.successors-successors.ensures)
    (Wrote-err _ _ _ _ c.from_residual-in_err-put_successors.ensures.0
    (WroteFront-after _ _ _ _ _ c.in_ok-put_front.ensures (WroteFront-more _ _ _ _ c.in_err-put_successors.ensures)))

pub put_end-requires : goal.put_end-requires
put_end-requires g c = λ states nodes is. omega (arith, c.requires, c.known.ensures.named states nodes (sym c.named-named.ensures ∙ is))

pub returns : goal.returns
returns g c = λ x there.
    Wrote-as _ _ _ _ _ (line_read _ _ c.args.v _ x c.owner.result c.priority.result c.successors-successors.result.now there c.named-named.ensures
    c.owner.ensures c.priority.ensures c.successors-successors.ensures)
    (Wrote-after _ _ _ _ _ _ c.in_ok-put_front.ensures (Wrote-after _ _ _ _ _ _ c.in_ok-put_successors.ensures c.put_end.ensures))
