-- The dependent rule's priorities are admissible.
use Rattle.std.proofs.Common.{◌≡◌, ℕ, ◌+◌, ◌≤◌, max, Bool, true, false, ap, ◌∙◌, inl, inr, arith, eq-eqb}
use Rattle.std.specs.Prelude.{if◌then◌else◌}
use Rattle.calculus.specs.NormalTree.{Norm, Constant, Junction, Modality, Fixpoint, Variable, size, normal_form}
use Rattle.calculus.specs.Nodes.{nodes_by, parity_from}
use Rattle.calculus.specs.Rules.{names, above, dependent}
use Rattle.calculus.specs.declared.priorities.Priorities.TheVariants.{Nested, Dependent}
use Rattle.measures.specs.Measure.{is_odd}
use Rattle.laws.specs.Admissible.{IsFree, IsEach, IsAboveInner, priority_in}
use Rattle.laws.specs.Laws.{ChosenIsAdmissible}
use Rattle.laws.proofs.Flags.{or_left, or_right}
use Rattle.laws.proofs.Closing.{normal_closed}
use Rattle.laws.proofs.Inner.{admissible_from_inside}
use Rattle.laws.proofs.Nested.{nodes_follow, nested_is_admissible, parity_is}

-- a variable that is free stands there
free_named : (b at : ℕ) (f : Norm) → IsFree b at f → names b f ≡ true
free_named b at (Constant flag) free = absurd free
free_named b at (Junction flag f g) free = elim free [
  | inl h ↦ or_left (names b f) (names b g) (free_named b (at + 1) f h)
  | inr h ↦ or_right (names b f) (names b g) (free_named b (at + 1 + size f) g h)
]
free_named b at (Modality flag a f) free = free_named b (at + 1) f free
free_named b at (Fixpoint flag f) free = free_named b (at + 1) f free.1
free_named b at (Variable c) free = eq-eqb c b free

own_le : (named : Bool) (own inner p : ℕ) → max (if named then own else 0) inner ≤ p → named ≡ true → own ≤ p
own_le true own inner p h e = omega (arith, h)
own_le false own inner p h e = cc

module _ (prio : ℕ → ℕ) where
  -- what is above the binder inside the tree bounds each part in which its variable is free
  inner_le : (b at p : ℕ) (f : Norm) → IsEach (λ k g. prio k ≡ dependent k g) at f → above b at f ≤ p → IsEach (λ k g. IsFree b k g → prio k ≤ p) at f
  inner_le b at p (Constant flag) h low = λ free. absurd free
  inner_le b at p (Junction flag f g) h low = (
    λ free. let zero : prio at ≡ 0 = h.0 in omega arith,
    inner_le b (at + 1) p f h.1 (omega arith),
    inner_le b (at + 1 + size f) p g h.2 (omega arith),
  )
  inner_le b at p (Modality flag a f) h low = (λ free. let zero : prio at ≡ 0 = h.0 in omega arith, inner_le b (at + 1) p f h.1 low)
  inner_le b at p (Fixpoint flag f) h low = (
    λ free.
        let is : prio at ≡ parity_from flag (above at (at + 1) f) = h.0 in
        let own = own_le (names b f) (parity_from flag (above at (at + 1) f)) (above b (at + 1) f) p low (free_named b at (Fixpoint flag f) free) in
        omega arith,
    inner_le b (at + 1) p f h.1 (omega arith),
  )
  inner_le b at p (Variable c) h low = λ free. let zero : prio at ≡ 0 = h in omega arith

  no_less_than : (flag : Bool) (n p : ℕ) → p ≡ parity_from flag n → n ≤ p
  no_less_than true n p e = omega (arith, e)
  no_less_than false n p e = omega (arith, e)

  is_above : (at : ℕ) (f : Norm) → IsEach (λ k g. prio k ≡ dependent k g) at f → IsEach (IsAboveInner prio) at f
  is_above at (Constant flag) h = h
  is_above at (Junction flag f g) h = (h.0, is_above (at + 1) f h.1, is_above (at + 1 + size f) g h.2)
  is_above at (Modality flag a f) h = (h.0, is_above (at + 1) f h.1)
  is_above at (Fixpoint flag f) h = (
    (ap is_odd h.0 ∙ parity_is flag (above at (at + 1) f), inner_le at (at + 1) (prio at) f h.1 (no_less_than flag (above at (at + 1) f) (prio at) h.0)),
    is_above (at + 1) f h.1,
  )
  is_above at (Variable c) h = h

-- the normal form's nodes are those of a closed tree with admissible priorities, by either rule
pub chosen_is_admissible : ChosenIsAdmissible
chosen_is_admissible Nested f admitted = nested_is_admissible f admitted
chosen_is_admissible Dependent f admitted =
    let nodes = nodes_by dependent 0 (normal_form f) in
    record {
      shapes = (nodes_follow dependent (normal_form f)).0;
      closed = normal_closed f admitted;
      admissible = (admissible_from_inside (normal_form f) (priority_in nodes) (normal_closed f admitted)).1
          (is_above (priority_in nodes) 0 (normal_form f) (nodes_follow dependent (normal_form f)).1);
    }
