-- The nodes by a rule have its priorities, and the nested rule's are admissible.
use Rattle.std.proofs.Common.{◌≡◌, ℕ, ◌+◌, ◌≤◌, Bool, true, false, refl, ap, ◌∙◌, inl, inr, arith}
use Rattle.std.specs.Prelude.{◌%◌}
use Rattle.calculus.specs.NormalTree.{Norm, Constant, Junction, Modality, Fixpoint, Variable, size, normal_form}
use Rattle.calculus.specs.Nodes.{Node, node_at, nodes_by, nested_rule, greatest_nested, parity_from}
use Rattle.calculus.proofs.Sizes.{no_less}
use Rattle.measures.specs.Measure.{is_odd}
use Rattle.laws.specs.Admissible.{IsFree, IsEach, IsFitting, priority_or, priority_in}
use Rattle.laws.specs.Laws.{NodesFollow, NestedIsAdmissible}
use Rattle.laws.proofs.Flags.{same_or_not, same_true, other_false}
use Rattle.laws.proofs.Trees.{each_map, map_preorder, IsSaid, said}
use Rattle.laws.proofs.Closing.{normal_closed}

-- each node has what its rule says
pub nodes_follow : NodesFollow
nodes_follow rule f = (
  map_preorder (λ (node : Node). node.shape) (node_at rule) 0 f,
  each_map (IsSaid (node_at rule) (nodes_by rule 0 f)) (λ k g. priority_in (nodes_by rule 0 f) k ≡ rule k g) 0 f (λ k g e. ap priority_or e)
      (said (node_at rule) (nodes_by rule 0 f) f refl),
)

pub parity_is : (flag : Bool) (n : ℕ) → is_odd (parity_from flag n) ≡ flag
parity_is true n = same_true (parity_from true n % 2) 1 (omega arith)
parity_is false n = other_false (parity_from false n % 2) 1 (λ e. omega arith)

-- the greatest priority in the tree is at most that of each binder around it whose variable is free in it
abbrev IsUnderOuter : (ℕ → ℕ) → ℕ → Norm → Type 0
IsUnderOuter prio at f = (b : ℕ) → IsFree b at f → greatest_nested f ≤ prio b

nested_fits : (prio : ℕ → ℕ) (at : ℕ) (f : Norm) → IsEach (λ k g. prio k ≡ nested_rule k g) at f → IsUnderOuter prio at f → IsEach (IsFitting prio) at f
nested_fits prio at (Constant flag) h outer = h
nested_fits prio at (Junction flag f g) h outer = (
  h.0,
  nested_fits prio (at + 1) f h.1 (λ b free. let i = outer b (inl free) in omega arith),
  nested_fits prio (at + 1 + size f) g h.2 (λ b free. let i = outer b (inr free) in omega arith),
)
nested_fits prio at (Modality flag a f) h outer = (h.0, nested_fits prio (at + 1) f h.1 outer)
nested_fits prio at (Fixpoint flag f) h outer =
    let is : prio at ≡ parity_from flag (greatest_nested f) = h.0 in
    let above = no_less flag (greatest_nested f) in (
      (ap is_odd is ∙ parity_is flag (greatest_nested f), λ b free. let i = outer b free in omega arith),
      nested_fits prio (at + 1) f h.1 (λ b free. elim (same_or_not b at) [
        | inl e ↦ (let q = ap prio e in omega arith)
        | inr e ↦ (let i = outer b (e, free) in omega arith)
      ]),
    )
nested_fits prio at (Variable b) h outer = h

-- the normal form's nodes are those of a closed tree with admissible priorities
pub nested_is_admissible : NestedIsAdmissible
nested_is_admissible f admitted = record {
  shapes = (nodes_follow nested_rule (normal_form f)).0;
  closed = normal_closed f admitted;
  admissible = nested_fits (priority_in (nodes_by nested_rule 0 (normal_form f))) 0 (normal_form f) (nodes_follow nested_rule (normal_form f)).1
      (λ b free. absurd (normal_closed f admitted b free));
}
