-- Larger sets give larger sets.
use Rattle.std.proofs.Common.{◌≡◌, ℕ, zero, suc, ◌+◌, ◌<◌, Bool, true, false}
use Rattle.std.specs.Prelude.{Contains, if◌then◌else◌, nat_lt, ◌==◌}
use Rattle.systems.specs.System.{System}
use Rattle.calculus.specs.NormalTree.{Norm, Constant, Junction, Modality, Fixpoint, Variable, size}
use Rattle.game.specs.Arena.{targets}
use Rattle.laws.proofs.Sat.{Sets, put, join, turns, sat, body, from, sets, joined_map, junction_is, reached_map, modality_is}
use Rattle.laws.proofs.Targets.{target_below}

-- inclusion at the numbers below n
abbrev pub IsIn : ℕ → (ℕ → Bool) → (ℕ → Bool) → Type 0
IsIn n p q = (s : ℕ) → s < n → p s ≡ true → q s ≡ true

-- inclusion of environments
abbrev pub AreIn : ℕ → Sets → Sets → Type 0
AreIn n e d = (b : ℕ) → IsIn n (e b) (d b)

-- one more set
pub put_mono : (n : ℕ) (e d : Sets) (b : ℕ) (p q : ℕ → Bool) → AreIn n e d → IsIn n p q → AreIn n (put e b p) (put d b q)
put_mono n e d b p q ed pq k = elim (k == b) as (λ t. IsIn n (if t then p else e k) (if t then q else d k)) [ true ↦ pq | false ↦ ed k ]

join_mono : (n m : ℕ) (e d x y : Sets) → AreIn n e d → AreIn n x y → AreIn n (join m e x) (join m d y)
join_mono n m e d x y ed xy k = elim (nat_lt k m) as (λ t. IsIn n (if t then e k else x k) (if t then d k else y k)) [ true ↦ ed k | false ↦ xy k ]

turns_mono : (n : ℕ) (i : ℕ) (F G : (ℕ → Bool) → ℕ → Bool) (p : ℕ → Bool) → ((u v : ℕ → Bool) → IsIn n u v → IsIn n (F u) (G v))
    → IsIn n (turns i F p) (turns i G p)
turns_mono n zero F G p FG s h x = x
turns_mono n (suc i) F G p FG s h x = FG (turns i F p) (turns i G p) (turns_mono n i F G p FG) s h x

module _ (l : System) where
  -- larger sets for the variables, a larger set for the tree
  pub mono : (at : ℕ) (f : Norm) (e d : Sets) → AreIn l.states e d → IsIn l.states (sat l at f e) (sat l at f d)
  mono at (Constant flag) e d ed s h x = x
  mono at (Junction flag f g) e d ed s h x =
      (junction_is flag (sat l (at + 1) f d s) (sat l (at + 1 + size f) g d s)).1
      (joined_map flag (mono (at + 1) f e d ed s h) (mono (at + 1 + size f) g e d ed s h)
      ((junction_is flag (sat l (at + 1) f e s) (sat l (at + 1 + size f) g e s)).0 x))
  mono at (Modality flag a f) e d ed s h x =
      (modality_is flag (sat l (at + 1) f d) (targets l a s)).1
      (reached_map flag (λ t. Contains (targets l a s) t) (λ t. sat l (at + 1) f e t ≡ true) (λ t. sat l (at + 1) f d t ≡ true)
      (λ t k. mono (at + 1) f e d ed t (target_below l a s t k))
      ((modality_is flag (sat l (at + 1) f e) (targets l a s)).0 x))
  mono at (Fixpoint flag f) e d ed s h x =
      turns_mono l.states l.states (body l at f e) (body l at f d) (from flag)
      (λ u v uv. mono (at + 1) f (put e at u) (put d at v) (put_mono l.states e d at u v ed uv)) s h x
  mono at (Variable b) e d ed s h x = ed b s h x

  -- a fixpoint's body is monotone
  pub body_mono : (at : ℕ) (f : Norm) (e : Sets) (u v : ℕ → Bool) → IsIn l.states u v → IsIn l.states (body l at f e u) (body l at f e v)
  body_mono at f e u v uv = mono (at + 1) f (put e at u) (put e at v) (put_mono l.states e e at u v (λ b s h x. x) uv)

  -- the same for the set of each node
  pub sets_mono : (at : ℕ) (f : Norm) (e d : Sets) → AreIn l.states e d → AreIn l.states (sets l at f e) (sets l at f d)
  sets_mono at (Constant flag) e d ed = put_mono l.states e d at (λ s. flag) (λ s. flag) ed (λ s h x. x)
  sets_mono at (Junction flag f g) e d ed =
      put_mono l.states (join (at + 1 + size f) (sets l (at + 1) f e) (sets l (at + 1 + size f) g e))
      (join (at + 1 + size f) (sets l (at + 1) f d) (sets l (at + 1 + size f) g d)) at
      (sat l at (Junction flag f g) e) (sat l at (Junction flag f g) d)
      (join_mono l.states (at + 1 + size f) (sets l (at + 1) f e) (sets l (at + 1) f d) (sets l (at + 1 + size f) g e) (sets l (at + 1 + size f) g d)
      (sets_mono (at + 1) f e d ed) (sets_mono (at + 1 + size f) g e d ed))
      (mono at (Junction flag f g) e d ed)
  sets_mono at (Modality flag a f) e d ed =
      put_mono l.states (sets l (at + 1) f e) (sets l (at + 1) f d) at (sat l at (Modality flag a f) e) (sat l at (Modality flag a f) d)
      (sets_mono (at + 1) f e d ed)
      (mono at (Modality flag a f) e d ed)
  sets_mono at (Fixpoint flag f) e d ed =
      sets_mono (at + 1) f (put e at (sat l at (Fixpoint flag f) e)) (put d at (sat l at (Fixpoint flag f) d))
      (put_mono l.states e d at (sat l at (Fixpoint flag f) e) (sat l at (Fixpoint flag f) d) ed (mono at (Fixpoint flag f) e d ed))
  sets_mono at (Variable b) e d ed = put_mono l.states e d at (e b) (d b) ed (ed b)
