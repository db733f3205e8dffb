-- On the way to a binder no priority is above its own.
use Rattle.std.proofs.Common.{◌≡◌, ℕ, ◌+◌, ◌<◌, ◌≤◌, ◌⊎◌, List, [], ◌∷◌, ap, ◌∙◌, inl, inr, arith}
use Rattle.std.specs.List.{AllByRecursion}
use Rattle.systems.specs.Path.{IsPath}
use Rattle.calculus.specs.NormalTree.{Norm, Constant, Junction, Modality, Fixpoint, Variable, size, Shape, shape_at}
use Rattle.calculus.proofs.Sizes.{size_some}
use Rattle.laws.specs.Admissible.{IsFree, IsEach, IsFitting}
use Rattle.laws.proofs.Trees.{IsWithin, each_both, each_each, each_at, from_free}
use Rattle.laws.proofs.Moves.{IsNext, IsLaid, stay}

-- a part's priority is at most that of each binder around it whose variable is free in it
pub fits_outer : (prio : ℕ → ℕ) (at : ℕ) (f : Norm) → IsFitting prio at f → (b : ℕ) → IsFree b at f → prio at ≤ prio b
fits_outer prio at (Constant flag) fits b free = absurd free
fits_outer prio at (Junction flag f g) fits b free = omega arith
fits_outer prio at (Modality flag a f) fits b free = omega arith
fits_outer prio at (Fixpoint flag f) fits b free = fits.1 b free
fits_outer prio at (Variable c) fits b free = omega arith

-- the span of the part at c: steps stay in it, or come to a node of no lower priority
pub record IsHeld (look : ℕ → Shape) (prio : ℕ → ℕ) (c : ℕ) : Type 0 where
  pub span : ℕ
  pub has : 1 ≤ span
  pub leaves : (k m : ℕ) → c ≤ k → k < c + span → IsNext (look k) m → ((c ≤ m) × (m < c + span)) ⊎ (prio c ≤ prio m)

module _ (look : ℕ → Shape) (prio : ℕ → ℕ) where
  part_held : (at : ℕ) (f : Norm) → IsLaid look at f → IsFitting prio at f → IsHeld look prio at
  part_held at f laid fits = record {
    span = size f;
    has = size_some f;
    leaves = λ k m lo hi next. elim (stay look (λ b. prio at ≤ prio b) at f laid (from_free (λ b. prio at ≤ prio b) at f (fits_outer prio at f fits)) k m
        (record { from = lo; to = hi }) next) [
          | inl w ↦ inl (w.from, w.to)
          | inr p ↦ inr p
        ];
  }

  -- each node of the tree has a span
  pub held : (at : ℕ) (f : Norm) → IsLaid look at f → IsEach (IsFitting prio) at f → (c : ℕ) → IsWithin at f c → IsHeld look prio c
  held at f laid fits = each_at (λ k g. IsHeld look prio k) (IsHeld look prio) (λ k g h. h) at f
      (each_both (IsLaid look) (IsFitting prio) (λ k g. IsHeld look prio k) at f part_held (each_each (λ k g. look k ≡ shape_at k g) at f laid) fits)

  -- places have a node each
  module _ (nd : ℕ → ℕ) (R : ℕ → ℕ → Type 0) (next : (v w : ℕ) → R v w → IsNext (look (nd v)) (nd w)) where
    -- a walk to b from within c's subtree, which b is outside of
    walk : (b c : ℕ) → b < c → (x : IsHeld look prio c) (v : ℕ) (vs : List ℕ) (t : ℕ) → c ≤ nd v → nd v < c + x.span → nd t ≡ b
        → AllByRecursion (λ y. prio (nd y) ≤ prio b) vs → IsPath R v vs t → prio c ≤ prio b
    walk b c h x v [] t lo hi e a p = let q = ap nd p in absurd (omega arith)
    walk b c h x v (m ∷ vs) t lo hi e a p =
        elim (x.leaves (nd v) (nd m) lo hi (next v m p.0)) [
          | inl i ↦ walk b c h x m vs t i.0 i.1 e a.1 p.1
          | inr i ↦ (let j : prio (nd m) ≤ prio b = a.0 in omega arith)
        ]

    -- On the way to b no priority is above b's.
    pub bounded : (b : ℕ) → ((v w : ℕ) → R v w → (nd v ≡ b) ⊎ ((b < nd v) × IsHeld look prio (nd v))) → (v : ℕ) (vs : List ℕ) (t : ℕ) → nd t ≡ b
        → IsPath R v vs t
        → AllByRecursion (λ y. prio (nd y) ≤ prio b) vs × (prio (nd v) ≤ prio b)
    bounded b each v [] t e p = let q = ap nd p in let r = ap prio (q ∙ e) in (tt, omega arith)
    bounded b each v (m ∷ vs) t e p =
        let i = bounded b each m vs t e p.1 in (
          (i.1, i.0),
          elim (each v m p.0) [
            | inl j ↦ (let r = ap prio j in omega arith)
            | inr j ↦ walk b (nd v) j.0 j.1 v (m ∷ vs) t (omega arith) (let k = j.1.has in omega arith) e (i.1, i.0) p
          ],
        )
