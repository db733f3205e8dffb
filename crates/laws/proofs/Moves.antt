-- Even's choices at each state with each node, and the moves that they leave.
use Rattle.std.proofs.Common.{◌≡◌, ℕ, ◌+◌, ◌<◌, ◌≤◌, ◌⊎◌, Bool, true, false, List, [], ◌∷◌, refl, sym, ap, ◌∙◌, subst, inl, inr, arith}
use Rattle.std.specs.Prelude.{Contains, if◌then◌else◌}
use Rattle.systems.specs.System.{System}
use Rattle.calculus.specs.NormalTree.{Norm, Constant, Junction, Modality, Fixpoint, Variable, size, Shape, ConstantNode, JunctionNode, ModalityNode, FixpointNode}
use Rattle.calculus.specs.NormalTree.{VariableNode, shape_at}
use Rattle.game.specs.Arena.{targets}
use Rattle.measures.proofs.Lists.{contains_first, contains_later}
use Rattle.calculus.proofs.Sizes.{size_some}
use Rattle.laws.specs.Admissible.{IsEach}
use Rattle.laws.proofs.Flags.{cases, both, same_or_not, below_or_not}
use Rattle.laws.proofs.Lists.{all_gives}
use Rattle.laws.proofs.Targets.{target_below}
use Rattle.laws.proofs.Sat.{Sets, put, join, junction, modality, sat, iterates, sets, put_here, put_other, join_left, join_right}
use Rattle.laws.proofs.Settled.{least}
use Rattle.laws.proofs.Trees.{IsWithin, Binds}

-- the first that passes
abbrev pub first : (ℕ → Bool) → List ℕ → ℕ
first p [] = 0
first p (x ∷ xs) = if p x then x else first p xs

-- The rank at a node inside a mu: the first iterate of the mu with which the state belongs to the node's set.
abbrev pub rank : System → ℕ → Norm → Sets → ℕ → ℕ → ℕ
rank l at f e k s = least l.states (λ i. sets l (at + 1) f (put e at (iterates true l at f e i)) k s)

-- For a node and a state: of two operands the left one if it holds, else the right one; of the states that an action leads to the first at which the
-- operand holds; and inside a mu what one chooses with the iterate of the rank. (At nodes of Odd nobody asks.)
abbrev pub choose : System → ℕ → Norm → Sets → ℕ → ℕ → ℕ
choose l at (Constant flag) e = λ k s. 0
choose l at (Junction flag f g) e = put (join (at + 1 + size f) (choose l (at + 1) f e) (choose l (at + 1 + size f) g e)) at
    (λ s. if sat l (at + 1) f e s then at + 1 else at + 1 + size f)
choose l at (Modality flag a f) e = put (choose l (at + 1) f e) at (λ s. first (sat l (at + 1) f e) (targets l a s))
choose l at (Fixpoint true f) e = λ k s. choose l (at + 1) f (put e at (iterates true l at f e (rank l at f e k s))) k s
choose l at (Fixpoint false f) e = choose l (at + 1) f (put e at (sat l at (Fixpoint false f) e))
choose l at (Variable b) e = λ k s. 0

-- which nodes a node of this shape leads to
abbrev pub IsNext : Shape → ℕ → Type 0
IsNext (ConstantNode flag) m = ⊥
IsNext (JunctionNode flag a b) m = (m ≡ a) ⊎ (m ≡ b)
IsNext (ModalityNode flag act child) m = m ≡ child
IsNext (FixpointNode flag child) m = m ≡ child
IsNext (VariableNode b) m = m ≡ b

-- Even moves to what is chosen, Odd anywhere
abbrev pub IsTaken : Bool → ℕ → ℕ → Type 0
IsTaken true c x = x ≡ c
IsTaken false c x = Unit {0}

-- from state s to state t and node m, Even choosing c
abbrev pub Moves : System → Shape → ℕ → ℕ → ℕ → ℕ → Type 0
Moves l (JunctionNode flag a b) c s t m = (t ≡ s) × IsTaken flag c m
Moves l (ModalityNode flag act child) c s t m = Contains (targets l act s) t × IsTaken flag c t
Moves l _ c s t m = t ≡ s

-- what Even's choice c at state s has to be
abbrev pub IsChoice : System → Shape → ℕ → ℕ → Type 0
IsChoice l (ConstantNode flag) c s = flag ≡ true
IsChoice l (JunctionNode flag a b) c s = (c ≡ a) ⊎ (c ≡ b)
IsChoice l (ModalityNode true act child) c s = Contains (targets l act s) c
IsChoice l _ c s = Unit {0}

-- a move at a state with a node, by the choice
abbrev pub Step : System → (ℕ → Shape) → (ℕ → ℕ → ℕ) → ℕ → ℕ → ℕ → ℕ → Type 0
Step l look c s k t m = IsNext (look k) m × Moves l (look k) (c k s) s t m

-- the table has the tree's shapes
abbrev pub IsLaid : (ℕ → Shape) → ℕ → Norm → Type 0
IsLaid look at f = IsEach (λ k g. look k ≡ shape_at k g) at f

-- ---- where moves lead

-- moves lead to states
pub moves_below : (l : System) (sh : Shape) (c s t m : ℕ) → s < l.states → Moves l sh c s t m → t < l.states
moves_below l (ConstantNode flag) c s t m h x = omega arith
moves_below l (JunctionNode flag a b) c s t m h x = omega (arith, x.0)
moves_below l (ModalityNode flag act child) c s t m h x = target_below l act s t x.0
moves_below l (FixpointNode flag child) c s t m h x = omega arith
moves_below l (VariableNode b) c s t m h x = omega arith

-- a move from a junction that holds leads to an operand that holds
pub junction_kept : (flag b c : Bool) (left right m : ℕ) → junction flag b c ≡ true → (m ≡ left) ⊎ (m ≡ right) → IsTaken flag (if b then left else right) m
    → ((m ≡ left) × (b ≡ true)) ⊎ ((m ≡ right) × (c ≡ true))
junction_kept true true c left right m h next taken = inl (taken, refl)
junction_kept true false c left right m h next taken = inr (taken, h)
junction_kept false b c left right m h (inl e) taken = inl (e, (both b c h).0)
junction_kept false b c left right m h (inr e) taken = inr (e, (both b c h).1)

-- the first that passes is one that does
pub first_found : (p : ℕ → Bool) (xs : List ℕ) → modality true p xs ≡ true → Contains xs (first p xs) × (p (first p xs) ≡ true)
first_found p [] h = cc
first_found p (x ∷ xs) h = elim (cases (p x)) [
  | inl e ↦ rw e (contains_first x xs, e)
  | inr e ↦ let i = first_found p xs (rw e at h) in rw e (contains_later x (first p xs) xs i.0, i.1)
]

-- a move from a modality that holds leads to where its operand holds
pub modality_kept : (flag : Bool) (p : ℕ → Bool) (xs : List ℕ) (t : ℕ) → modality flag p xs ≡ true → Contains xs t → IsTaken flag (first p xs) t → p t ≡ true
modality_kept true p xs t h into taken = subst (λ x. p x ≡ true) (sym taken) (first_found p xs h).1
modality_kept false p xs t h into taken = all_gives p xs t h into

-- ---- choices by number

module _ (l : System) (look : ℕ → Shape) where
  -- a move by the shape that stands there
  pub seen : (at k c s t m : ℕ) (sh : Shape) → look at ≡ sh → k ≡ at → IsNext (look k) m × Moves l (look k) c s t m → IsNext sh m × Moves l sh c s t m
  seen at k c s t m sh e h x = subst (λ y. IsNext y m × Moves l y c s t m) (ap look h ∙ e) x

  -- a move by an equal choice
  pub move_choice : (k c d s t m : ℕ) → c ≡ d → IsNext (look k) m × Moves l (look k) c s t m → IsNext (look k) m × Moves l (look k) d s t m
  move_choice k c d s t m e x = subst (λ y. IsNext (look k) m × Moves l (look k) y s t m) e x

module _ (l : System) where
  module _ (flag : Bool) (at : ℕ) (f g : Norm) (e : Sets) (k s : ℕ) where
    -- at the junction itself the left operand if it holds, else the right one
    pub junction_choice : k ≡ at → choose l at (Junction flag f g) e k s ≡ (if sat l (at + 1) f e s then at + 1 else at + 1 + size f)
    junction_choice i = ap (λ (u : ℕ → ℕ). u s) (put_here (join (at + 1 + size f) (choose l (at + 1) f e) (choose l (at + 1 + size f) g e)) at
        (λ s. if sat l (at + 1) f e s then at + 1 else at + 1 + size f) k i)

    -- inside the left operand the operand's choice
    pub left_choice : (k ≡ at → ⊥) → k < at + 1 + size f → choose l at (Junction flag f g) e k s ≡ choose l (at + 1) f e k s
    left_choice i b = ap (λ (u : ℕ → ℕ). u s)
        (put_other (join (at + 1 + size f) (choose l (at + 1) f e) (choose l (at + 1 + size f) g e)) at
        (λ s. if sat l (at + 1) f e s then at + 1 else at + 1 + size f) k i
        ∙ join_left (at + 1 + size f) (choose l (at + 1) f e) (choose l (at + 1 + size f) g e) k b)

    -- inside the right operand the operand's choice
    pub right_choice : (k ≡ at → ⊥) → at + 1 + size f ≤ k → choose l at (Junction flag f g) e k s ≡ choose l (at + 1 + size f) g e k s
    right_choice i b = ap (λ (u : ℕ → ℕ). u s)
        (put_other (join (at + 1 + size f) (choose l (at + 1) f e) (choose l (at + 1 + size f) g e)) at
        (λ s. if sat l (at + 1) f e s then at + 1 else at + 1 + size f) k i
        ∙ join_right (at + 1 + size f) (choose l (at + 1) f e) (choose l (at + 1 + size f) g e) k b)

-- ---- steps stay

module _ (look : ℕ → Shape) where
  wider : (P Q : ℕ → Type 0) (at : ℕ) (f : Norm) (b : ℕ) (g : Norm) (m : ℕ) → at ≤ b → b + size g ≤ at + size f → ((x : ℕ) → P x → IsWithin at f x ⊎ Q x)
      → IsWithin b g m ⊎ P m → IsWithin at f m ⊎ Q m
  wider P Q at f b g m lo hi pq (inl w) = inl (record { from = omega (arith, w.from); to = omega (arith, w.to) })
  wider P Q at f b g m lo hi pq (inr p) = pq m p

  at_look : (at k m : ℕ) (sh : Shape) → look at ≡ sh → k ≡ at → IsNext (look k) m → IsNext sh m
  at_look at k m sh e h x = subst (λ y. IsNext y m) (ap look h ∙ e) x

  -- a step from a node of the tree leads to one, or to a variable's binder around it
  pub stay : (P : ℕ → Type 0) (at : ℕ) (f : Norm) → IsLaid look at f → Binds P at f → (k m : ℕ) → IsWithin at f k → IsNext (look k) m → IsWithin at f m ⊎ P m
  stay P at (Constant flag) laid binds k m w x = absurd (at_look at k m (ConstantNode flag) laid (omega (arith, w.from, w.to)) x)
  stay P at (Junction flag f g) laid binds k m w x =
      let p = size_some f in let q = size_some g in
      elim (same_or_not k at) as (λ _. IsWithin at (Junction flag f g) m ⊎ P m) [
        | inl e ↦ elim (at_look at k m (JunctionNode flag (at + 1) (at + 1 + size f)) laid.0 e x) [
          | inl y ↦ inl
              (record { from = omega arith; to = omega arith })
          | inr y ↦ inl (record { from = omega arith; to = omega arith })
        ]
        | inr e ↦ elim (below_or_not k (at + 1 + size f)) as (λ _. IsWithin at (Junction flag f g) m ⊎ P m) [
          | inl b ↦ wider P P at (Junction flag f g) (at + 1) f m (omega arith) (omega arith) (λ x p. inr p)
              (stay P (at + 1) f laid.1 binds.0 k m (record { from = omega (arith, w.from); to = b }) x)
          | inr b ↦ wider P P at (Junction flag f g) (at + 1 + size f) g m (omega arith) (omega arith) (λ x p. inr p)
              (stay P (at + 1 + size f) g laid.2 binds.1 k m (record { from = b; to = omega (arith, w.to) }) x)
        ]
      ]
  stay P at (Modality flag a f) laid binds k m w x =
      let p = size_some f in
      elim (same_or_not k at) as (λ _. IsWithin at (Modality flag a f) m ⊎ P m) [
        | inl e ↦ (let y : m ≡ at + 1 = at_look at k m (ModalityNode flag a (at + 1)) laid.0 e x in inl (record { from = omega arith; to = omega arith }))
        | inr e ↦ wider P P at (Modality flag a f) (at + 1) f m (omega arith) (omega arith) (λ x p. inr p)
            (stay P (at + 1) f laid.1 binds k m (record { from = omega (arith, w.from); to = omega (arith, w.to) }) x)
      ]
  stay P at (Fixpoint flag f) laid binds k m w x =
      let p = size_some f in
      elim (same_or_not k at) as (λ _. IsWithin at (Fixpoint flag f) m ⊎ P m) [
        | inl e ↦ (let y : m ≡ at + 1 = at_look at k m (FixpointNode flag (at + 1)) laid.0 e x in inl (record { from = omega arith; to = omega arith }))
        | inr e ↦ wider (λ b. (b ≡ at) ⊎ P b) P at (Fixpoint flag f) (at + 1) f m (omega arith) (omega arith)
            (λ x v. elim v [ inl q ↦ inl (record { from = omega arith; to = omega arith }) | inr q ↦ inr q ])
            (stay (λ b. (b ≡ at) ⊎ P b) (at + 1) f laid.1 binds k m (record { from = omega (arith, w.from); to = omega (arith, w.to) }) x)
      ]
  stay P at (Variable b) laid binds k m w x = let y : m ≡ b = at_look at k m (VariableNode b) laid (omega (arith, w.from, w.to)) x
      in inr (subst P (sym y) binds)
