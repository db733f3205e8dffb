use Rattle.std.proofs.Common.{◌≡◌, ◌≤◌, ◌<◌, ◌++◌, ℕ, true, List, [], Option, Some, None, MatchOption, is_some, length, vec_len, subst, sym, ap, ◌∙◌, arith}
use Rattle.calculus.specs.View.{formula_of}
use Rattle.calculus.specs.Tree.{Formula}
use Rattle.calculus.specs.NormalTree.{node_count, norm, normal_form}
use Rattle.calculus.specs.Nodes.{nodes_by, greatest_node_priority}
use Rattle.calculus.specs.Rules.{rule_of, nodes_with}
use Rattle.calculus.specs.Form.{IsForm}
use Rattle.calculus.specs.NodeView.{nodes_of}
use Rattle.normal.specs.Surveys.{noted_rule}
use Rattle.normal.specs.Writes.{Writes}
use Rattle.calculus.specs.declared.node as declared
use Rattle.normal.specs.declared.write.Preorder.{Preorder}
use Rattle.calculus.specs.declared.priorities.Priorities.{Priorities}
use Rattle.normal.proofs.Counts.{norm_size}
use Rattle.normal.proofs.Numbers.{is_form}
use Rattle.normal.proofs.make.normal_with.Goals as goal

-- what was counted is within the limit
few : (r : Option ℕ) (k : ℕ) → is_some r ≡ true → MatchOption r (4096 < k) (λ n. (n ≡ k) × (n ≤ 4096)) → k ≤ 4096
few None k e h = cc
few (Some n) k e h = omega (arith, h.0, h.1)

pub part-summary-requires-clause-room : goal.part-summary-requires-clause-room
part-summary-requires-clause-room c =
    let f = formula_of c.tree-tree.result.now in
    omega (arith, norm_size true (λ _. 0) f 0, few c.counted_nodes.result (node_count f) c.if-is_none.ensures c.counted_nodes.ensures)

pub part-requires : goal.part-requires
part-requires c =
    let f = formula_of c.tree-tree.result.now in
    let old = c.new-preorder.result.nodes in
    omega (
      arith,
      norm_size true (λ _. 0) f (vec_len old),
      few c.counted_nodes.result (node_count f) c.if-is_none.ensures c.counted_nodes.ensures,
      old.ok.0,
      ap length c.new-preorder.ensures.nodes,
    )

-- what is written after no nodes is the normal form's
written : (rule priorities : Priorities) (f : Formula) (table : List ℕ) (old new : Preorder) → rule ≡ priorities → old.nodes.items ≡ []
    → old.priorities.now ≡ table → Writes old new (norm true (λ _. 0) f (vec_len old.nodes))
    → nodes_by (noted_rule table) 0 (normal_form f) ≡ nodes_by (rule_of rule) 0 (normal_form f) → nodes_of new.nodes.items ≡ nodes_with priorities f
written rule priorities f table old new chosen none same w found =
    let first : vec_len old.nodes ≡ 0 = omega (arith, old.nodes.ok.0, ap length none) in
    let at : nodes_of new.nodes.items ≡ nodes_of old.nodes.items ++ nodes_by (noted_rule table) 0 (norm true (λ _. 0) f 0) = w.nodes
    ∙ (λ j. nodes_of old.nodes.items ++ nodes_by (noted_rule (same j)) (first j) (norm true (λ _. 0) f (first j))) in
    at ∙ (ap (λ (xs : List declared.Node.Node). nodes_of xs ++ nodes_by (noted_rule table) 0 (normal_form f)) none
    ∙ (found ∙ ap (λ r. nodes_by (rule_of r) 0 (normal_form f)) chosen))

pub of-requires : goal.of-requires
of-requires c =
    let f = formula_of c.tree-tree.result.now in
    let is = written c.new-survey.result.rule c.args.priorities f c.part-summary.new.self.priorities c.new-preorder.result c.part.new.self
    c.new-survey.ensures c.new-preorder.ensures.nodes c.new-preorder.ensures.priorities c.in_ok-part.ensures c.part-summary.ensures.priorities in
    let greatest : c.part-summary.result.greatest ≡ greatest_node_priority (nodes_with c.args.priorities f) = c.part-summary.ensures.summary.greatest
    ∙ ap (λ r. greatest_node_priority (nodes_by (rule_of r) 0 (normal_form f))) c.new-survey.ensures in
    subst IsForm (sym is) (is_form c.args.priorities f (few c.counted_nodes.result (node_count f) c.if-is_none.ensures c.counted_nodes.ensures)
    (omega (arith, greatest, c.if-summary-gt-GREATEST_PRIORITY.false)))
