use Rattle.std.specs.Prelude.{◌≡◌, ◌<◌, ℕ, [], Some, vec_len, map, slice_index_or, slice_get}
use Rattle.calculus.specs.Nodes.{Node}
use Rattle.calculus.specs.Normal.{normal_nodes}
use Rattle.calculus.specs.Taken.{IsSetFor}
use Rattle.calculus.proofs.label_sets.label_sets.Given as goal

abbrev pub invariant-loop-node : goal.invariant-loop-node
invariant-loop-node l = record {
  count : vec_len l.sets ≡ l.node-index;
  each : (k : ℕ) (node : Node) → k < l.node-index → slice_get (normal_nodes l.form) k ≡ Some node
      → IsSetFor l.lts.labels node.shape (slice_index_or (map (λ set. set.items) l.sets.items) k []);
}
