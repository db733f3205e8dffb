use Rattle.text.proofs.Writing.{Wrote-as, Wrote-err, Wrote-after, WroteFront-more}
use Rattle.calculus.specs.NodeView.{node_of}
use Rattle.normal.proofs.Printing.{line_is}
use Rattle.normal.proofs.printer.put_node.Goals as goal

pub returns-in_err-put_front : goal.returns-in_err-put_front
returns-in_err-put_front g c =
    Wrote-as _ _ _ _ _ (line_is c.args.number (node_of c.args.node.now))
    (Wrote-err _ _ _ _ c.from_residual.ensures.0 (WroteFront-more _ _ _ _ c.in_err-put_front.ensures))

pub returns : goal.returns
returns g c =
    Wrote-as _ _ _ _ _ (line_is c.args.number (node_of c.args.node.now)) (Wrote-after _ _ _ _ _ _ c.in_ok-put_front.ensures c.put_rest.ensures)
