use Rattle.std.proofs.Common.{subst}
use Rattle.text.proofs.Writing.{HasWritten, HasWritten-more, HasWritten-stops, HasWritten-all, Wrote-err}
use Rattle.normal.proofs.Printing.{next_node, no_nodes}
use Rattle.normal.proofs.printer.put_nodes.Goals as goal

pub returns-in_err-put_node : goal.returns-in_err-put_node
returns-in_err-put_node g c =
    let next = next_node c.args.nodes.now c.loop-number.number _ c.loop-number-test.true c.index-nodes-number.is in
    Wrote-err _ _ _ _ c.from_residual.ensures.0 (HasWritten-stops _ _ _ _ _ _ (subst (HasWritten _ _ _) next c.loop-number.invariant) c.in_err-put_node.ensures)

pub loop-number-preserved : goal.loop-number-preserved
loop-number-preserved g c =
    let next = next_node c.args.nodes.now c.loop-number.number _ c.loop-number-test.true c.index-nodes-number.is in
    HasWritten-more _ _ _ _ _ _ (subst (HasWritten _ _ _) next c.loop-number.invariant) c.in_ok-put_node.ensures

pub returns : goal.returns
returns g c =
    HasWritten-all _ _ _ (subst (HasWritten _ _ _) (no_nodes c.args.nodes.now c.loop-number.number c.loop-number-test.false) c.loop-number.invariant)
