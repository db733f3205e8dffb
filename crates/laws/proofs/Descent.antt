-- Values at states and nodes that do not rise along the edges: where a value is finite, the state belongs to the node's set.
use Rattle.std.proofs.Common.{◌≡◌, ℕ, zero, suc, ◌+◌, ◌<◌, ◌≤◌, Bool, true, false, not, ◌||◌, refl, ◌∙◌, ap, subst, inl, inr, arith}
use Rattle.std.specs.Prelude.{IsTrue, Contains}
use Rattle.systems.specs.System.{System}
use Rattle.calculus.specs.NormalTree.{Norm, Constant, Junction, Modality, Fixpoint, Variable, size}
use Rattle.game.specs.Arena.{targets}
use Rattle.laws.specs.Admissible.{IsFree, IsEach, IsFitting}
use Rattle.laws.proofs.Flags.{same_or_not, below_or_not}
use Rattle.laws.proofs.Targets.{target_below}
use Rattle.laws.proofs.Sat.{Sets, put, sat, iterates, sets, put_here, put_other, Joined, joined_map, junction_is, Reached, reached_map, modality_is}
use Rattle.calculus.proofs.Counted.{how_many, less, less_than}
use Rattle.laws.proofs.Trees.{IsWithin}
use Rattle.laws.proofs.NodeSets.{at_set, true_root, left_sets, right_sets, one_sets}

-- Values compared by what of them stands at or above a priority: at most, or below where it is strict. Only finite ones are.
pub record Comparison (A : Type 0) : Type 0 where
  pub over : Bool → ℕ → A → A → Bool
  pub trans : (strict more : Bool) (p : ℕ) (a b c : A) → IsTrue (over strict p a b) → IsTrue (over more p b c) → IsTrue (over (strict || more) p a c)
  pub coarser : (strict : Bool) (p q : ℕ) (a b : A) → p ≤ q → IsTrue (over strict p a b) → IsTrue (over false q a b)
  pub not_itself : (p : ℕ) (a : A) → IsTrue (over true p a a) → ⊥
  pub finite : (strict : Bool) (p : ℕ) (a b : A) → IsTrue (over strict p a b) → IsTrue (over false 0 a a)

module _ (l : System) (prio : ℕ → ℕ) (A : Type 0) (c : Comparison A) (val : ℕ → ℕ → A) where
  -- the value is not top
  abbrev pub IsFinite : ℕ → ℕ → Type 0
  IsFinite s k = IsTrue (c.over false 0 (val s k) (val s k))

  -- The value at a part of the tree descends: along one edge at what Even owns, along each at what Odd owns.
  abbrev pub IsDown : ℕ → Norm → Type 0
  IsDown at (Constant flag) = (s : ℕ) → s < l.states → IsFinite s at → flag ≡ true
  IsDown at (Junction flag f g) =
      (s : ℕ) → s < l.states → IsFinite s at → Joined flag (IsTrue (c.over false 0 (val s (at + 1)) (val s at)))
      (IsTrue (c.over false 0 (val s (at + 1 + size f)) (val s at)))
  IsDown at (Modality flag a f) =
      (s : ℕ) → s < l.states → IsFinite s at → Reached flag (λ t. Contains (targets l a s) t) (λ t. IsTrue (c.over false 0 (val t (at + 1)) (val s at)))
  IsDown at (Fixpoint flag f) = (s : ℕ) → s < l.states → IsFinite s at → IsTrue (c.over flag (prio at) (val s (at + 1)) (val s at))
  IsDown at (Variable b) = (s : ℕ) → s < l.states → IsFinite s at → IsTrue (c.over false 0 (val s b) (val s at))

  -- Each free variable's set has the states whose value at the binder is at most this one, as far as the binder's priority goes.
  abbrev pub Covers : Sets → ℕ → Norm → A → Type 0
  Covers e at f m = (b : ℕ) → IsFree b at f → (t : ℕ) → t < l.states → IsTrue (c.over false (prio b) (val t b) m) → e b t ≡ true

  -- where the environment covers the value, the tree holds
  abbrev pub IsSound : ℕ → Norm → Type 0
  IsSound at f = (e : Sets) (s : ℕ) → s < l.states → IsFinite s at → Covers e at f (val s at) → sat l at f e s ≡ true

  below_zero : (p : ℕ) → 0 ≤ p
  below_zero p = omega arith

  -- what covers a value covers those that are at most it
  less_covered : (e : Sets) (at : ℕ) (f : Norm) (m r : A) → IsTrue (c.over false 0 r m) → Covers e at f m → Covers e at f r
  less_covered e at f m r h cover b free t lt k = cover b free t lt
      (c.trans false false (prio b) (val t b) r m k (c.coarser false 0 (prio b) r m (below_zero (prio b)) h))

  -- the environment of a fixpoint's body
  inner_covered : (e : Sets) (at : ℕ) (f : Norm) (set : ℕ → Bool) (m r : A) →
      ((b : ℕ) → (b ≡ at → ⊥) → IsFree b (at + 1) f → prio at ≤ prio b) → IsTrue (c.over false (prio at) r m) →
      ((b : ℕ) → (b ≡ at → ⊥) → IsFree b (at + 1) f → (t : ℕ) → t < l.states → IsTrue (c.over false (prio b) (val t b) m) → e b t ≡ true) →
      ((t : ℕ) → t < l.states → IsTrue (c.over false (prio at) (val t at) r) → set t ≡ true) →
      Covers (put e at set) (at + 1) f r
  inner_covered e at f set m r outer h cover own b free t lt k = elim (same_or_not b at) [
    | inl i ↦ ap (λ (u : ℕ → Bool). u t) (put_here e at set b i) ∙ own t lt (subst (λ x. IsTrue (c.over false (prio x) (val t x) r)) i k)
    | inr i ↦ ap (λ (u : ℕ → Bool). u t) (put_other e at set b i)
        ∙ cover b i free t lt (c.trans false false (prio b) (val t b) r m k (c.coarser false (prio at) (prio b) r m (outer b i free) h))
  ]

  -- how many states have a lower value at the binder
  abbrev lower : ℕ → ℕ → ℕ
  lower at s = how_many (λ t. c.over true (prio at) (val t at) (val s at)) l.states

  few_more : (at s t : ℕ) → t < l.states → IsTrue (c.over true (prio at) (val t at) (val s at)) → (j : ℕ) → lower at s < suc j → lower at t < j
  few_more at s t tl below j few =
      let step = less l.states (λ x. c.over true (prio at) (val x at) (val t at)) (λ x. c.over true (prio at) (val x at) (val s at)) t tl
      (λ x xl h. c.trans true true (prio at) _ _ _ h below) (c.not_itself (prio at) (val t at)) below in
      omega arith

  -- At a mu the states of lower value are fewer with each turn; at a nu each number of turns will do.
  fixpoint_sound : (flag : Bool) (f : Norm) (at : ℕ) → IsDown at (Fixpoint flag f) → IsFitting prio at (Fixpoint flag f) → IsSound (at + 1) f
      → IsSound at (Fixpoint flag f)
  fixpoint_sound flag f at down fits inside e s lt fin cover = go l.states s lt fin
      (λ is. less_than l.states (λ t. c.over true (prio at) (val t at) (val s at)) s lt (c.not_itself (prio at) (val s at))) cover
    where
      start : (kind : Bool) (n : ℕ) → (kind ≡ true → n < 0) → not kind ≡ true
      start true n few = let h = few refl in absurd (omega arith)
      start false n few = refl

      go : (j : ℕ) (s : ℕ) → s < l.states → IsFinite s at → (flag ≡ true → lower at s < j) → Covers e at (Fixpoint flag f) (val s at)
          → iterates flag l at f e j s ≡ true
      go zero s lt fin few cover = start flag (lower at s) few
      go (suc j) s lt fin few cover =
          let here = down s lt fin in
          let weak : IsTrue (c.over false (prio at) (val s (at + 1)) (val s at)) = c.coarser flag (prio at) (prio at) _ _ (omega arith) here in
          inside (put e at (iterates flag l at f e j)) s lt (c.finite flag (prio at) _ _ here)
          (inner_covered e at f (iterates flag l at f e j) (val s at) (val s (at + 1)) (λ b out free. fits.1 b (out, free)) weak
          (λ b out free. cover b (out, free))
          (λ t tl k.
          go j t tl (c.finite false (prio at) _ _ k)
          (λ is. few_more at s t tl (subst (λ x. IsTrue (c.over x (prio at) (val t at) (val s at))) is (c.trans false flag (prio at) _ _ _ k here)) j (few is))
          (λ b free x xl kx. cover b free x xl (c.trans false false (prio b) _ _ _ kx
          (c.coarser false (prio at) (prio b) _ _ (fits.1 b free) (c.trans false false (prio at) _ _ _ k weak))))))

  -- by recursion on the tree: where values descend, covered states are in the meaning
  pub sound : (f : Norm) (at : ℕ) → IsEach IsDown at f → IsEach (IsFitting prio) at f → IsSound at f
  sound (Constant flag) at down fits e s lt fin cover = down s lt fin
  sound (Junction flag f g) at down fits e s lt fin cover =
      (junction_is flag (sat l (at + 1) f e s) (sat l (at + 1 + size f) g e s)).1
      (joined_map flag
      (λ go. sound f (at + 1) down.1 fits.1 e s lt (c.finite false 0 _ _ go) (less_covered e (at + 1) f _ _ go (λ b free. cover b (inl free))))
      (λ go. sound g (at + 1 + size f) down.2 fits.2 e s lt (c.finite false 0 _ _ go)
      (less_covered e (at + 1 + size f) g _ _ go (λ b free. cover b (inr free))))
      (down.0 s lt fin))
  sound (Modality flag a f) at down fits e s lt fin cover =
      (modality_is flag (sat l (at + 1) f e) (targets l a s)).1
      (reached_map flag (λ t. Contains (targets l a s) t) (λ t. IsTrue (c.over false 0 (val t (at + 1)) (val s at))) (λ t. sat l (at + 1) f e t ≡ true)
      (λ t into go. sound f (at + 1) down.1 fits.1 e t (target_below l a s t into) (c.finite false 0 _ _ go) (less_covered e (at + 1) f _ _ go cover))
      (down.0 s lt fin))
  sound (Fixpoint flag f) at down fits e s lt fin cover = fixpoint_sound flag f at down.0 fits.0 (sound f (at + 1) down.1 fits.1) e s lt fin cover
  sound (Variable b) at down fits e s lt fin cover = cover b refl s lt (c.coarser false 0 (prio b) _ _ (below_zero (prio b)) (down s lt fin))

  -- each free variable's set has every state whose value at the binder is finite
  abbrev pub Fills : Sets → ℕ → Norm → Type 0
  Fills e at f = (b : ℕ) → IsFree b at f → (t : ℕ) → t < l.states → IsFinite t b → e b t ≡ true

  filled : (f : Norm) (at : ℕ) → IsEach IsDown at f → IsEach (IsFitting prio) at f → (e : Sets) → Fills e at f → (s : ℕ) → s < l.states → IsFinite s at
      → sat l at f e s ≡ true
  filled f at down fits e fills s lt fin = sound f at down fits e s lt fin (λ b free t tl k. fills b free t tl (c.finite false (prio b) _ _ k))

  inner_filled : (f : Norm) (at : ℕ) (e : Sets) (set : ℕ → Bool)
      → ((b : ℕ) → (b ≡ at → ⊥) → IsFree b (at + 1) f → (t : ℕ) → t < l.states → IsFinite t b → e b t ≡ true) →
      ((t : ℕ) → t < l.states → IsFinite t at → set t ≡ true) → Fills (put e at set) (at + 1) f
  inner_filled f at e set fills own b free t tl fin = elim (same_or_not b at) [
    | inl i ↦ ap (λ (u : ℕ → Bool). u t) (put_here e at set b i) ∙ own t tl (subst (λ x. IsFinite t x) i fin)
    | inr i ↦ ap (λ (u : ℕ → Bool). u t) (put_other e at set b i) ∙ fills b i free t tl fin
  ]

  filled_root : (f : Norm) (at : ℕ) → IsEach IsDown at f → IsEach (IsFitting prio) at f → (e : Sets) → Fills e at f → (s k : ℕ) → s < l.states → k ≡ at
      → IsFinite s k → sets l at f e k s ≡ true
  filled_root f at down fits e fills s k lt i fin = true_root l at f e k s i (filled f at down fits e fills s lt (subst (λ x. IsFinite s x) i fin))

  -- at every node
  pub everywhere : (f : Norm) (at : ℕ) → IsEach IsDown at f → IsEach (IsFitting prio) at f → (e : Sets) → Fills e at f → (s k : ℕ) → s < l.states
      → IsWithin at f k
      → IsFinite s k → sets l at f e k s ≡ true
  everywhere (Constant flag) at down fits e fills s k lt w fin = filled_root (Constant flag) at down fits e fills s k lt (omega (arith, w.from, w.to)) fin
  everywhere (Junction flag f g) at down fits e fills s k lt w fin =
      elim (same_or_not k at) as (λ _. sets l at (Junction flag f g) e k s ≡ true) [
        | inl i ↦ filled_root (Junction flag f g) at down fits e fills s k lt i fin
        | inr i ↦ elim (below_or_not k (at + 1 + size f)) as (λ _. sets l at (Junction flag f g) e k s ≡ true) [
          | inl b ↦ at_set (sets l at (Junction flag f g) e) (sets l (at + 1) f e) k s (left_sets l at f g e (sat l at (Junction flag f g) e) k i b)
              (everywhere f (at + 1) down.1 fits.1 e (λ b free. fills b (inl free)) s k lt (record { from = omega (arith, w.from); to = b }) fin)
          | inr b ↦ at_set (sets l at (Junction flag f g) e) (sets l (at + 1 + size f) g e) k s (right_sets l at f g e (sat l at (Junction flag f g) e) k b)
              (everywhere g (at + 1 + size f) down.2 fits.2 e (λ b free. fills b (inr free)) s k lt (record { from = b; to = omega (arith, w.to) }) fin)
        ]
      ]
  everywhere (Modality flag a f) at down fits e fills s k lt w fin =
      elim (same_or_not k at) as (λ _. sets l at (Modality flag a f) e k s ≡ true) [
        | inl i ↦ filled_root (Modality flag a f) at down fits e fills s k lt i fin
        | inr i ↦ at_set (sets l at (Modality flag a f) e) (sets l (at + 1) f e) k s (one_sets l at f e (sat l at (Modality flag a f) e) k i)
            (everywhere f (at + 1) down.1 fits.1 e fills s k lt (record { from = omega (arith, w.from); to = omega (arith, w.to) }) fin)
      ]
  everywhere (Fixpoint flag f) at down fits e fills s k lt w fin =
      elim (same_or_not k at) as (λ _. sets l at (Fixpoint flag f) e k s ≡ true) [
        | inl i ↦ filled_root (Fixpoint flag f) at down fits e fills s k lt i fin
        | inr i ↦ everywhere f (at + 1) down.1 fits.1 (put e at (sat l at (Fixpoint flag f) e))
            (inner_filled f at e (sat l at (Fixpoint flag f) e) (λ b out free. fills b (out, free)) (filled (Fixpoint flag f) at down fits e fills)) s k lt
            (record { from = omega (arith, w.from); to = omega (arith, w.to) }) fin
      ]
  everywhere (Variable b) at down fits e fills s k lt w fin = filled_root (Variable b) at down fits e fills s k lt (omega (arith, w.from, w.to)) fin
