use Rattle.std.proofs.Common.{◌≡◌, ◌-◌, ◌%◌, ℕ, List, Some, ap, length, sym, ◌∙◌}
use Rattle.std.specs.Prelude.{slice_get}
use Rattle.calculus.specs.Nodes.{Node}
use Rattle.calculus.specs.Normal.{normal_nodes}
use Rattle.why.specs.Story.{modality_at, modality_of, modality_text, shape_in}
use Rattle.why.proofs.Lines.{same_maps}
use Rattle.why.proofs.writer.modality_at.Goals as goal

text_of : (nodes : List Node) (v k : ℕ) (node : Node) → k ≡ (v - 2) % length nodes → slice_get nodes k ≡ Some node → modality_of node ≡ modality_at nodes v
text_of nodes v k node number at = ap (λ o. modality_text (shape_in o)) (sym at ∙ ap (slice_get nodes) number)

pub returns : goal.returns
returns c =
    let s = c.args.story.now in
    let nodes = normal_nodes s.normal.now in
    let at = same_maps (λ text. text.items) modality_of s.modalities.now nodes c.node_of.result c.index-story-node_of.result s.texts c.node_of.ensures.within in
    c.as_slice.ensures.value ∙ (at.2 ∙ text_of nodes c.args.v c.node_of.result at.0 c.node_of.ensures.number at.1)
