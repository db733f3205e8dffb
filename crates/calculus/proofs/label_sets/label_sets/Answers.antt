use Rattle.std.proofs.Common.{◌≡◌, ◌+◌, ◌<◌, ◌∷◌, [], ◌++◌, ℕ, Bool, List, Some, Vec, Global, length, map, slice_index_or, subst, sym, ap, ◌∙◌, arith, rules}
use Rattle.std.specs.Prelude.{slice_get}
use Rattle.std.proofs.lemmas.List.{length-map, map-append}
use Rattle.std.proofs.lemmas.Option.{slice_get_within}
use Rattle.calculus.specs.Nodes.{Node}
use Rattle.calculus.specs.NodeView.{node_of}
use Rattle.calculus.specs.Normal.{normal_nodes}
use Rattle.calculus.specs.Taken.{IsSetFor}
use Rattle.calculus.proofs.LabelSets.{sets_more, read_node}
use Rattle.calculus.proofs.label_sets.label_sets.Goals as goal

abbrev items_of : List (Vec Bool Global) → List (List Bool)
items_of = map (λ set. set.items)

pub loop-node-preserved : goal.loop-node-preserved
loop-node-preserved c =
    let i = c.loop-node.node-index in
    let nodes = normal_nodes c.args.form.now in
    let old = c.loop-node.sets.items in
    let number : length old ≡ i = search rules in
    let set = c.in_ok-set_for.field-0 in
    let items : c.push.new.self.items ≡ old ++ set ∷ [] = c.in_ok-push.ensures.items in
    let same : items_of c.push.new.self.items ≡ items_of old ++ set.items ∷ [] = ap items_of items
    ∙ map-append (λ (s : Vec Bool Global). s.items) old (set ∷ []) in
    let count : length (items_of old) ≡ i = length-map old (λ (s : Vec Bool Global). s.items) ∙ number in
    let here : (node : Node) → slice_get nodes i ≡ Some node → IsSetFor c.args.lts.now.labels node.shape set.items =
    λ node is. subst (λ (n : Node). IsSetFor c.args.lts.now.labels n.shape set.items)
    (sym (read_node c.nodes-node-items.result.now nodes i c.node-item.result node c.nodes-node-items.ensures c.loop-node-test.true c.node-item.is is))
    c.in_ok-set_for.ensures
    in
    record {
      count = search rules;
      each = subst (λ (xs : List (List Bool)). (k : ℕ) (node : Node) → k < i + 1 → slice_get nodes k ≡ Some node
          → IsSetFor c.args.lts.now.labels node.shape (slice_index_or xs k [])) (sym same)
          (sets_more c.args.lts.now.labels nodes (items_of old) set.items i count c.loop-node.invariant.each here);
    }

pub returns-clause-sets : goal.returns-clause-sets
returns-clause-sets c =
    λ k node is.
    let all : length (normal_nodes c.args.form.now) ≡ length c.nodes-node-items.result.now = ap length (sym c.nodes-node-items.ensures)
    ∙ length-map c.nodes-node-items.result.now node_of in
    c.loop-node.invariant.each k node (omega (arith, slice_get_within (normal_nodes c.args.form.now) k node is, all, c.loop-node-test.false)) is
