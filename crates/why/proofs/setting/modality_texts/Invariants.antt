use Rattle.std.proofs.Common.{◌≡◌, map, take}
use Rattle.calculus.specs.NodeView.{node_of}
use Rattle.why.specs.Story.{modality_of}
use Rattle.why.proofs.setting.modality_texts.Given as goal

abbrev pub invariant-loop-node : goal.invariant-loop-node
invariant-loop-node l = map (λ text. text.items) l.texts.items ≡ map modality_of (map node_of (take l.node-index l.node-items))
