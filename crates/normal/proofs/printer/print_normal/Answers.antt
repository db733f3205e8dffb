use Rattle.std.proofs.Common.{◌≡◌, ◌++◌}
use Rattle.text.proofs.Writing.{Wrote-as, Wrote-err, Wrote-after, WroteFront-more}
use Rattle.normal.specs.NormalText.{summary_line, node_lines, normal_text}
use Rattle.calculus.specs.NodeView.{nodes_of}
use Rattle.calculus.specs.Normal.{normal_nodes, normal_depth}
use Rattle.normal.proofs.printer.print_normal.Goals as goal

pub returns-in_err-put_summary : goal.returns-in_err-put_summary
returns-in_err-put_summary g c =
    let form = c.args.form.now in
    let whole : summary_line (nodes_of c.nodes.result.now) c.depth.result ++ node_lines 0 (normal_nodes form)
    ≡ normal_text (normal_nodes form) (normal_depth form) = λ i. summary_line (c.nodes.ensures i) (c.depth.ensures i) ++ node_lines 0 (normal_nodes form) in
    record { wrote = Wrote-as _ _ _ _ _ whole (Wrote-err _ _ _ _ c.from_residual.ensures.0 (WroteFront-more _ _ _ _ c.in_err-put_summary.ensures)) }

pub returns : goal.returns
returns g c =
    let form = c.args.form.now in
    let whole : summary_line (nodes_of c.nodes.result.now) c.depth.result ++ node_lines 0 (nodes_of c.nodes-2.result.now)
    ≡ normal_text (normal_nodes form) (normal_depth form) = λ i. summary_line (c.nodes.ensures i) (c.depth.ensures i)
    ++ node_lines 0 (c.nodes-2.ensures i) in
    record { wrote = Wrote-as _ _ _ _ _ whole (Wrote-after _ _ _ _ _ _ c.in_ok-put_summary.ensures c.put_nodes.ensures) }
