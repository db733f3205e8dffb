-- The sets of a tree's nodes: the operands' at their numbers, and the given ones below the tree's.
use Rattle.std.proofs.Common.{◌≡◌, ℕ, ◌+◌, ◌<◌, ◌≤◌, ◌⊎◌, Bool, true, false, refl, sym, ap, ◌∙◌, inl, inr, arith}
use Rattle.systems.specs.System.{System}
use Rattle.calculus.specs.NormalTree.{Norm, Constant, Junction, Modality, Fixpoint, Variable, size}
use Rattle.calculus.proofs.Sizes.{size_some}
use Rattle.laws.proofs.Sat.{Sets, put, join, sat, body, sets, put_here, put_other, join_left, join_right}
use Rattle.laws.proofs.Growth.{IsIn, body_mono}
use Rattle.laws.proofs.Settled.{up, settled}
use Rattle.laws.proofs.Trees.{IsWithin}

-- the same set, the same answer
pub set_at : (e d : Sets) (k s : ℕ) → e k ≡ d k → e k s ≡ true → d k s ≡ true
set_at e d k s q x = ap (λ (u : ℕ → Bool). u s) (sym q) ∙ x

-- the same the other way round
pub at_set : (e d : Sets) (k s : ℕ) → e k ≡ d k → d k s ≡ true → e k s ≡ true
at_set e d k s q x = ap (λ (u : ℕ → Bool). u s) q ∙ x

module _ (l : System) where
  -- below the tree's numbers nothing is changed
  pub sets_low : (at : ℕ) (f : Norm) (e : Sets) (k : ℕ) → k < at → sets l at f e k ≡ e k
  sets_low at (Constant flag) e k h = put_other e at (λ s. flag) k (omega arith)
  sets_low at (Junction flag f g) e k h =
      put_other (join (at + 1 + size f) (sets l (at + 1) f e) (sets l (at + 1 + size f) g e)) at (sat l at (Junction flag f g) e) k (omega arith)
      ∙ (join_left (at + 1 + size f) (sets l (at + 1) f e) (sets l (at + 1 + size f) g e) k (omega arith) ∙ sets_low (at + 1) f e k (omega arith))
  sets_low at (Modality flag a f) e k h = put_other (sets l (at + 1) f e) at (sat l at (Modality flag a f) e) k (omega arith)
      ∙ sets_low (at + 1) f e k (omega arith)
  sets_low at (Fixpoint flag f) e k h = sets_low (at + 1) f (put e at (sat l at (Fixpoint flag f) e)) k (omega arith)
      ∙ put_other e at (sat l at (Fixpoint flag f) e) k (omega arith)
  sets_low at (Variable b) e k h = put_other e at (e b) k (omega arith)

  -- the first node's set is the tree's
  pub sets_root : (at : ℕ) (f : Norm) (e : Sets) → sets l at f e at ≡ sat l at f e
  sets_root at (Constant flag) e = put_here e at (λ s. flag) at refl
  sets_root at (Junction flag f g) e = put_here (join (at + 1 + size f) (sets l (at + 1) f e) (sets l (at + 1 + size f) g e)) at
      (sat l at (Junction flag f g) e) at refl
  sets_root at (Modality flag a f) e = put_here (sets l (at + 1) f e) at (sat l at (Modality flag a f) e) at refl
  sets_root at (Fixpoint flag f) e = sets_low (at + 1) f (put e at (sat l at (Fixpoint flag f) e)) at (omega arith)
      ∙ put_here e at (sat l at (Fixpoint flag f) e) at refl
  sets_root at (Variable b) e = put_here e at (e b) at refl

  -- at its own number a tree's set is its test
  pub root_true : (at : ℕ) (f : Norm) (e : Sets) (k s : ℕ) → k ≡ at → sets l at f e k s ≡ true → sat l at f e s ≡ true
  root_true at f e k s i x = ap (λ (u : ℕ → Bool). u s) (sym (sets_root at f e)) ∙ (ap (λ (j : ℕ). sets l at f e j s) (sym i) ∙ x)

  -- the same the other way round
  pub true_root : (at : ℕ) (f : Norm) (e : Sets) (k s : ℕ) → k ≡ at → sat l at f e s ≡ true → sets l at f e k s ≡ true
  true_root at f e k s i x = ap (λ (j : ℕ). sets l at f e j s) i ∙ (ap (λ (u : ℕ → Bool). u s) (sets_root at f e) ∙ x)

  -- two operands: X the parent's set at its own number
  module _ (at : ℕ) (f g : Norm) (e : Sets) (X : ℕ → Bool) where
    -- the sets of a tree of two operands
    abbrev pub two_sets : Sets
    two_sets = put (join (at + 1 + size f) (sets l (at + 1) f e) (sets l (at + 1 + size f) g e)) at X

    -- in the left operand the operand's sets
    pub left_sets : (k : ℕ) → (k ≡ at → ⊥) → k < at + 1 + size f → two_sets k ≡ sets l (at + 1) f e k
    left_sets k h b = put_other (join (at + 1 + size f) (sets l (at + 1) f e) (sets l (at + 1 + size f) g e)) at X k h ∙ join_left (at + 1 + size f)
        (sets l (at + 1) f e) (sets l (at + 1 + size f) g e) k b

    -- in the right operand the operand's sets
    pub right_sets : (k : ℕ) → at + 1 + size f ≤ k → two_sets k ≡ sets l (at + 1 + size f) g e k
    right_sets k b = put_other (join (at + 1 + size f) (sets l (at + 1) f e) (sets l (at + 1 + size f) g e)) at X k (λ q. omega arith)
        ∙ join_right (at + 1 + size f)
        (sets l (at + 1) f e) (sets l (at + 1 + size f) g e) k b

    lower_sets : (k : ℕ) → k < at → two_sets k ≡ sets l (at + 1 + size f) g e k
    lower_sets k h = left_sets k (λ q. omega arith) (omega arith)
        ∙ (sets_low (at + 1) f e k (omega arith) ∙ sym (sets_low (at + 1 + size f) g e k (omega arith)))

    -- where the left operand holds
    pub from_left : (s : ℕ) → sat l (at + 1) f e s ≡ true → two_sets (at + 1) s ≡ true
    from_left s x = let p = size_some f in ap (λ (u : ℕ → Bool). u s) (left_sets (at + 1) (λ q. omega arith) (omega arith) ∙ sets_root (at + 1) f e) ∙ x

    -- where the right operand holds
    pub from_right : (s : ℕ) → sat l (at + 1 + size f) g e s ≡ true → two_sets (at + 1 + size f) s ≡ true
    from_right s x = ap (λ (u : ℕ → Bool). u s) (right_sets (at + 1 + size f) (omega arith) ∙ sets_root (at + 1 + size f) g e) ∙ x

    -- what the left operand's sets have
    pub lift_left : (P : ℕ → Type 0) → ((b : ℕ) → P b → b < at) → (m t : ℕ) → IsWithin (at + 1) f m ⊎ P m → sets l (at + 1) f e m t ≡ true → two_sets m t ≡ true
    lift_left P lower m t (inl w) x = ap (λ (u : ℕ → Bool). u t) (left_sets m (λ q. omega (arith, w.from)) (omega (arith, w.to))) ∙ x
    lift_left P lower m t (inr p) x = let b = lower m p in ap (λ (u : ℕ → Bool). u t) (left_sets m (λ q. omega arith) (omega arith)) ∙ x

    -- what the right operand's sets have
    pub lift_right : (P : ℕ → Type 0) → ((b : ℕ) → P b → b < at) → (m t : ℕ) → IsWithin (at + 1 + size f) g m ⊎ P m → sets l (at + 1 + size f) g e m t ≡ true
        → two_sets m t ≡ true
    lift_right P lower m t (inl w) x = ap (λ (u : ℕ → Bool). u t) (right_sets m w.from) ∙ x
    lift_right P lower m t (inr p) x = ap (λ (u : ℕ → Bool). u t) (lower_sets m (lower m p)) ∙ x

  -- one operand
  module _ (at : ℕ) (f : Norm) (e : Sets) (X : ℕ → Bool) where
    -- in the operand the operand's sets
    pub one_sets : (k : ℕ) → (k ≡ at → ⊥) → put (sets l (at + 1) f e) at X k ≡ sets l (at + 1) f e k
    one_sets k h = put_other (sets l (at + 1) f e) at X k h

    -- where the operand holds
    pub from_one : (s : ℕ) → sat l (at + 1) f e s ≡ true → put (sets l (at + 1) f e) at X (at + 1) s ≡ true
    from_one s x = ap (λ (u : ℕ → Bool). u s) (one_sets (at + 1) (λ q. omega arith) ∙ sets_root (at + 1) f e) ∙ x

    -- what the operand's sets have
    pub lift_one : (P : ℕ → Type 0) → ((b : ℕ) → P b → b < at) → (m t : ℕ) → IsWithin (at + 1) f m ⊎ P m → sets l (at + 1) f e m t ≡ true
        → put (sets l (at + 1) f e) at X m t ≡ true
    lift_one P lower m t (inl w) x = ap (λ (u : ℕ → Bool). u t) (one_sets m (λ q. omega (arith, w.from))) ∙ x
    lift_one P lower m t (inr p) x = let b = lower m p in ap (λ (u : ℕ → Bool). u t) (one_sets m (λ q. omega arith)) ∙ x

  -- a fixpoint's set is in its body's
  pub bound_step : (flag : Bool) (at : ℕ) (f : Norm) (e : Sets) → IsIn l.states (sat l at (Fixpoint flag f) e) (body l at f e (sat l at (Fixpoint flag f) e))
  bound_step true at f e = up l.states (body l at f e) (body_mono l at f e) l.states
  bound_step false at f e = settled l.states (body l at f e) (body_mono l at f e)
