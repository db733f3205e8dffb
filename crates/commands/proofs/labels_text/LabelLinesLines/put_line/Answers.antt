use Rattle.std.proofs.Common.{◌≡◌, ◌∙◌, ◌∷◌, ◌++◌, Some, ap, decimal, get_or, rules, sym}
use Rattle.std.specs.Prelude.{slice_get}
use Rattle.std.proofs.lemmas.Option.{slice_get-get_or}
use Rattle.systems.specs.Numbered.{label_at}
use Rattle.calculus.specs.NodeView.{nodes_of}
use Rattle.text.proofs.Writing.{Wrote-as}
use Rattle.commands.specs.Labels.{is_taken, label_end}
use Rattle.commands.specs.Ranking.{counted_line_of}
use Rattle.commands.proofs.Ranked.{none, taken_by}
use Rattle.commands.proofs.labels_text.LabelLinesLines.put_line.Goals as goal

pub returns : goal.returns
returns g c =
    let lines = c.args.self.now in
    let form = nodes_of lines.nodes.now in
    let counted = get_or lines.ranked.now c.args.number none in
    let count : c.from.result ≡ counted.count.0 = search rules in
    let label : c.label-label.result.bytes.now ≡ label_at lines.lts.now.labels counted.number = c.label-label.ensures in
    let end = c.end_of_line.ensures ∙ ap label_end (c.is_taken.ensures ∙ (taken_by c.label-label.result.bytes.now lines.nodes.now ∙ ap (is_taken form) label)) in
    let there : slice_get lines.ranked.now c.args.number ≡ Some counted = slice_get-get_or lines.ranked.now c.args.number none c.requires in
    Wrote-as _ _ _ _ _ ((λ i. decimal (count i) ++ (32 ∷ 34 ∷ (label i ++ end i))) ∙ ap (counted_line_of lines.lts.now.labels form) (sym there)) c.put_pieces.ensures
