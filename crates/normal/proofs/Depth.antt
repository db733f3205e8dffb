-- Priorities and alternation.
use Rattle.std.proofs.Common.{◌≡◌, ◌+◌, ◌%◌, ◌≤◌, ℕ, max, Bool, true, false, List, [], ◌∷◌, ◌++◌, inl, inr, arith}
use Rattle.std.specs.Prelude.{if◌then◌else◌}
use Rattle.std.specs.List.{AllZip}
use Rattle.std.proofs.lemmas.Bool.Decides.{eqb_tells}
use Rattle.calculus.specs.NormalTree.{Norm, Constant, Junction, Modality, Fixpoint, Variable, size, chain, depth, normal_form}
use Rattle.calculus.specs.Nodes.{Node, nodes_by, nested_rule, greatest_nested, greatest_node_priority, parity_from}
use Rattle.calculus.specs.Rules.{names, above, dependent, nodes_with}
use Rattle.calculus.specs.declared.priorities.Priorities.TheVariants.{Nested, Dependent}
use Rattle.normal.specs.Laws.{PriorityWithinDepth, DependentIsLower}
use Rattle.calculus.proofs.Sizes.{no_less}
use Rattle.normal.proofs.Surveying.{greatest_append}

-- A chain that begins with the kind of the greatest priority is at least as long.
record Rises (f : Norm) : Type 0 where
  odd : greatest_nested f % 2 ≡ 1 → greatest_nested f ≤ chain f true
  even : greatest_nested f % 2 ≡ 0 → greatest_nested f ≤ chain f false

rises : (f : Norm) → Rises f
rises (Constant flag) = record { odd = λ e. omega arith; even = λ e. omega arith }
rises (Junction flag f g) =
    let h = rises f in
    let k = rises g in
    record {
      odd = λ e. both (greatest_nested f) (greatest_nested g) 1 (chain f true) (chain g true) h.odd k.odd e;
      even = λ e. both (greatest_nested f) (greatest_nested g) 0 (chain f false) (chain g false) h.even k.even e;
    }
  where
    both : (m n p a b : ℕ) → (m % 2 ≡ p → m ≤ a) → (n % 2 ≡ p → n ≤ b) → max m n % 2 ≡ p → max m n ≤ max a b
    both m n p a b h k e = grind arith
rises (Modality flag a f) = let h = rises f in record { odd = h.odd; even = h.even }
rises (Fixpoint true f) = let h = rises f in let o = h.odd in let e = h.even
    in record { odd = λ w. up (greatest_nested f) (chain f true) (chain f false) o e; even = λ w. omega arith }
  where
    up : (m a b : ℕ) → (m % 2 ≡ 1 → m ≤ a) → (m % 2 ≡ 0 → m ≤ b) → parity_from true m ≤ max (1 + b) a
    up m a b o e = elim (eqb_tells (m % 2) 1) [
      | inl w ↦ omega (arith, o w.1, w.1)
      | inr w ↦ let even : m % 2 ≡ 0 = omega (arith, w.1)
          in omega (arith, e even, even)
    ]
rises (Fixpoint false f) = let h = rises f in let o = h.odd in let e = h.even
    in record { odd = λ w. omega arith; even = λ w. up (greatest_nested f) (chain f true) (chain f false) o e }
  where
    up : (m a b : ℕ) → (m % 2 ≡ 1 → m ≤ a) → (m % 2 ≡ 0 → m ≤ b) → parity_from false m ≤ max (1 + a) b
    up m a b o e = elim (eqb_tells (m % 2) 1) [
      | inl w ↦ omega (arith, o w.1, w.1)
      | inr w ↦ let even : m % 2 ≡ 0 = omega (arith, w.1)
          in omega (arith, e even, even)
    ]
rises (Variable binder) = record { odd = λ e. omega arith; even = λ e. omega arith }

greatest_within_depth : (f : Norm) → greatest_nested f ≤ depth f
greatest_within_depth f =
    let h = rises f in
    elim (eqb_tells (greatest_nested f % 2) 1) [
      | inl w ↦ omega (arith, h.odd w.1)
      | inr w ↦ let even : greatest_nested f % 2 ≡ 0 = omega (arith, w.1)
          in omega (arith, h.even even)
    ]

-- the greatest priority in the tree is the greatest that a node has
nodes_greatest : (at : ℕ) (f : Norm) → greatest_node_priority (nodes_by nested_rule at f) ≡ greatest_nested f
nodes_greatest at (Constant flag) = omega arith
nodes_greatest at (Junction flag f g) =
    omega (
      arith,
      greatest_append (nodes_by nested_rule (at + 1) f) (nodes_by nested_rule (at + 1 + size f) g),
      nodes_greatest (at + 1) f,
      nodes_greatest (at + 1 + size f) g,
    )
nodes_greatest at (Modality flag a f) = omega (arith, nodes_greatest (at + 1) f)
nodes_greatest at (Fixpoint flag f) = omega (arith, nodes_greatest (at + 1) f, no_less flag (greatest_nested f))
nodes_greatest at (Variable binder) = omega arith

-- ---- dependent priorities

parity_rises : (flag : Bool) (m n : ℕ) → m ≤ n → parity_from flag m ≤ parity_from flag n
parity_rises true m n h = omega arith
parity_rises false m n h = omega arith

some_le : (t : Bool) (m n : ℕ) → m ≤ n → (if t then m else 0) ≤ n
some_le true m n h = h
some_le false m n h = omega arith

above_le_greatest : (b at : ℕ) (f : Norm) → above b at f ≤ greatest_nested f
above_le_greatest b at (Constant flag) = omega arith
above_le_greatest b at (Junction flag f g) = omega (arith, above_le_greatest b (at + 1) f, above_le_greatest b (at + 1 + size f) g)
above_le_greatest b at (Modality flag a f) = above_le_greatest b (at + 1) f
above_le_greatest b at (Fixpoint flag f) =
    let own = some_le (names b f) (parity_from flag (above at (at + 1) f)) (parity_from flag (greatest_nested f))
    (parity_rises flag (above at (at + 1) f) (greatest_nested f) (above_le_greatest at (at + 1) f)) in
    omega (arith, own, above_le_greatest b (at + 1) f, no_less flag (greatest_nested f))
above_le_greatest b at (Variable c) = omega arith

zip_append : {A B : Type 0} (R : A → B → Type 0) (xs : List A) (ys : List B) (us : List A) (vs : List B) → AllZip R xs ys → AllZip R us vs
    → AllZip R (xs ++ us) (ys ++ vs)
zip_append R [] [] us vs h k = k
zip_append R [] (y ∷ ys) us vs h k = absurd h
zip_append R (x ∷ xs) [] us vs h k = absurd h
zip_append R (x ∷ xs) (y ∷ ys) us vs h k = (h.0, zip_append R xs ys us vs h.1 k)

abbrev IsLower : Node → Node → Type 0
IsLower d n = d.priority ≤ n.priority

lower : (at : ℕ) (f : Norm) → AllZip IsLower (nodes_by dependent at f) (nodes_by nested_rule at f)
lower at (Constant flag) = (omega arith, tt)
lower at (Junction flag f g) = (
  omega arith,
  zip_append IsLower (nodes_by dependent (at + 1) f) (nodes_by nested_rule (at + 1) f) (nodes_by dependent (at + 1 + size f) g)
      (nodes_by nested_rule (at + 1 + size f) g) (lower (at + 1) f) (lower (at + 1 + size f) g),
)
lower at (Modality flag a f) = (omega arith, lower (at + 1) f)
lower at (Fixpoint flag f) = (parity_rises flag (above at (at + 1) f) (greatest_nested f) (above_le_greatest at (at + 1) f), lower (at + 1) f)
lower at (Variable c) = (omega arith, tt)

pub dependent_is_lower : DependentIsLower
dependent_is_lower f = lower 0 (normal_form f)

-- ---- either rule

greatest_lower : (xs ys : List Node) → AllZip IsLower xs ys → greatest_node_priority xs ≤ greatest_node_priority ys
greatest_lower [] [] h = omega arith
greatest_lower [] (y ∷ ys) h = absurd h
greatest_lower (x ∷ xs) [] h = absurd h
greatest_lower (x ∷ xs) (y ∷ ys) h = omega (arith, h.0, greatest_lower xs ys h.1)

pub priority_within_depth : PriorityWithinDepth
priority_within_depth Nested f = omega (arith, nodes_greatest 0 (normal_form f), greatest_within_depth (normal_form f))
priority_within_depth Dependent f =
    let low = greatest_lower (nodes_with Dependent f) (nodes_with Nested f) (dependent_is_lower f) in
    omega (arith, low, nodes_greatest 0 (normal_form f), greatest_within_depth (normal_form f))
