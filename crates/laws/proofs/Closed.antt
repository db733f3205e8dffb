-- The sets are closed under the moves, and the choices are right.
use Rattle.std.proofs.Common.{◌≡◌, ℕ, ◌+◌, ◌<◌, ◌≤◌, ◌⊎◌, Bool, true, false, refl, sym, ap, ◌∙◌, subst, inl, inr, arith}
use Rattle.std.specs.Prelude.{if◌then◌else◌}
use Rattle.systems.specs.System.{System}
use Rattle.calculus.specs.Tree.{Action}
use Rattle.calculus.specs.NormalTree.{Norm, Constant, Junction, Modality, Fixpoint, Variable, size, Shape, ConstantNode, JunctionNode, ModalityNode, FixpointNode}
use Rattle.calculus.specs.NormalTree.{VariableNode}
use Rattle.game.specs.Arena.{targets}
use Rattle.laws.proofs.Flags.{same_or_not, below_or_not}
use Rattle.laws.proofs.Sat.{Sets, put, sat, body, iterates, sets, put_here, put_other}
use Rattle.laws.proofs.Growth.{put_mono, body_mono, sets_mono}
use Rattle.laws.proofs.Settled.{up_to, least_found}
use Rattle.laws.proofs.Trees.{IsWithin, Binds}
use Rattle.laws.proofs.NodeSets.{set_at, root_true, true_root, left_sets, right_sets, one_sets, from_left, from_right, from_one, lift_left, lift_right}
use Rattle.laws.proofs.NodeSets.{lift_one, bound_step}
use Rattle.laws.proofs.Moves.{first, rank, choose, IsTaken, IsChoice, Step, IsLaid, moves_below, junction_kept, first_found, modality_kept, seen, move_choice}
use Rattle.laws.proofs.Moves.{junction_choice, left_choice, right_choice, stay}

-- the rank is found
pub rank_found : (l : System) (at : ℕ) (f : Norm) (e : Sets) (k s i : ℕ) → i ≤ l.states → sets l (at + 1) f (put e at (iterates true l at f e i)) k s ≡ true
    → (sets l (at + 1) f (put e at (iterates true l at f e (rank l at f e k s))) k s ≡ true) × (rank l at f e k s ≤ i)
rank_found l at f e k s i h x = least_found l.states (λ j. sets l (at + 1) f (put e at (iterates true l at f e j)) k s) i h x

module _ (l : System) (look : ℕ → Shape) where
  -- membership moves along equal numbers
  pub at_true : (X : Sets) (k k' s s' : ℕ) → k ≡ k' → s ≡ s' → X k' s' ≡ true → X k s ≡ true
  at_true X k k' s s' p q x = rw (p, q) x

  -- From a state with a node to whose set it belongs, a move leads to another such.
  pub closed : (P : ℕ → Type 0) (at : ℕ) (f : Norm) (e : Sets) → IsLaid look at f → Binds P at f → ((b : ℕ) → P b → b < at) → (s k t m : ℕ) → IsWithin at f k
      → s < l.states
      → sets l at f e k s ≡ true → Step l look (choose l at f e) s k t m → sets l at f e m t ≡ true
  closed P at (Constant flag) e laid binds lower s k t m w h x y = absurd (seen l look at k 0 s t m (ConstantNode flag) laid (omega (arith, w.from, w.to)) y).0
  closed P at (Junction flag f g) e laid binds lower s k t m w h x y =
      elim (same_or_not k at) as (λ _. sets l at (Junction flag f g) e m t ≡ true) [
        | inl i ↦ (
            let z = seen l look at k (choose l at (Junction flag f g) e k s) s t m (JunctionNode flag (at + 1) (at + 1 + size f)) laid.0 i y in
            elim (junction_kept flag (sat l (at + 1) f e s) (sat l (at + 1 + size f) g e s) (at + 1) (at + 1 + size f) m
            (root_true l at (Junction flag f g) e k s i x) z.0
            (subst (λ c. IsTaken flag c m) (junction_choice l flag at f g e k s i) z.1.1)) as (λ _. sets l at (Junction flag f g) e m t ≡ true) [
              | inl j ↦ at_true (sets l at (Junction flag f g) e) m (at + 1) t s j.0 z.1.0 (from_left l at f g e (sat l at (Junction flag f g) e) s j.1)
              | inr j ↦ at_true (sets l at (Junction flag f g) e) m (at + 1 + size f) t s j.0 z.1.0
                  (from_right l at f g e (sat l at (Junction flag f g) e) s j.1)
            ])
        | inr i ↦ elim (below_or_not k (at + 1 + size f)) as (λ _. sets l at (Junction flag f g) e m t ≡ true) [
          | inl b ↦ (
              let v : IsWithin (at + 1) f k = record { from = omega (arith, w.from); to = b } in
              let z = move_choice l look k (choose l at (Junction flag f g) e k s) (choose l (at + 1) f e k s) s t m (left_choice l flag at f g e k s i b) y in
              lift_left l at f g e (sat l at (Junction flag f g) e) P lower m t (stay look P (at + 1) f laid.1 binds.0 k m v y.0)
              (closed P (at + 1) f e laid.1 binds.0 (λ b p. let q = lower b p in omega arith) s k t m v h
              (set_at (sets l at (Junction flag f g) e) (sets l (at + 1) f e) k s (left_sets l at f g e (sat l at (Junction flag f g) e) k i b) x) z))
          | inr b ↦ (
              let v : IsWithin (at + 1 + size f) g k = record { from = b; to = omega (arith, w.to) } in
              let z = move_choice l look k (choose l at (Junction flag f g) e k s) (choose l (at + 1 + size f) g e k s) s t m
              (right_choice l flag at f g e k s i b) y in
              lift_right l at f g e (sat l at (Junction flag f g) e) P lower m t (stay look P (at + 1 + size f) g laid.2 binds.1 k m v y.0)
              (closed P (at + 1 + size f) g e laid.2 binds.1 (λ b p. let q = lower b p in omega arith) s k t m v h
              (set_at (sets l at (Junction flag f g) e) (sets l (at + 1 + size f) g e) k s (right_sets l at f g e (sat l at (Junction flag f g) e) k b) x) z))
        ]
      ]
  closed P at (Modality flag a f) e laid binds lower s k t m w h x y =
      elim (same_or_not k at) as (λ _. sets l at (Modality flag a f) e m t ≡ true) [
        | inl i ↦ (
            let z = seen l look at k (choose l at (Modality flag a f) e k s) s t m (ModalityNode flag a (at + 1)) laid.0 i y in
            let c : choose l at (Modality flag a f) e k s ≡ first (sat l (at + 1) f e) (targets l a s) =
            ap (λ (u : ℕ → ℕ). u s) (put_here (choose l (at + 1) f e) at (λ s. first (sat l (at + 1) f e) (targets l a s)) k i) in
            let v = modality_kept flag (sat l (at + 1) f e) (targets l a s) t (root_true l at (Modality flag a f) e k s i x) z.1.0
            (subst (λ c. IsTaken flag c t) c z.1.1) in
            at_true (sets l at (Modality flag a f) e) m (at + 1) t t z.0 refl (from_one l at f e (sat l at (Modality flag a f) e) t v))
        | inr i ↦ (
            let v : IsWithin (at + 1) f k = record { from = omega (arith, w.from); to = omega (arith, w.to) } in
            let c : choose l at (Modality flag a f) e k s ≡ choose l (at + 1) f e k s =
            ap (λ (u : ℕ → ℕ). u s) (put_other (choose l (at + 1) f e) at (λ s. first (sat l (at + 1) f e) (targets l a s)) k i) in
            let z = move_choice l look k (choose l at (Modality flag a f) e k s) (choose l (at + 1) f e k s) s t m c y in
            lift_one l at f e (sat l at (Modality flag a f) e) P lower m t (stay look P (at + 1) f laid.1 binds k m v y.0)
            (closed P (at + 1) f e laid.1 binds (λ b p. let q = lower b p in omega arith) s k t m v h
            (set_at (sets l at (Modality flag a f) e) (sets l (at + 1) f e) k s (one_sets l at f e (sat l at (Modality flag a f) e) k i) x) z))
      ]
  closed P at (Fixpoint flag f) e laid binds lower s k t m w h x y =
      elim (same_or_not k at) as (λ _. sets l at (Fixpoint flag f) e m t ≡ true) [
        | inl i ↦ (
            let z = seen l look at k (choose l at (Fixpoint flag f) e k s) s t m (FixpointNode flag (at + 1)) laid.0 i y in
            at_true (sets l at (Fixpoint flag f) e) m (at + 1) t s z.0 z.1
            (true_root l (at + 1) f (put e at (sat l at (Fixpoint flag f) e)) (at + 1) s refl
            (bound_step l flag at f e s h (root_true l at (Fixpoint flag f) e k s i x))))
        | inr i ↦ (
            let v : IsWithin (at + 1) f k = record { from = omega (arith, w.from); to = omega (arith, w.to) } in
            inside flag laid binds v x y
            (λ d x y. closed (λ b. (b ≡ at) ⊎ P b) (at + 1) f d laid.1 binds
            (λ b p. elim p [ inl u ↦ omega arith | inr u ↦ (let n = lower b u in omega arith) ]) s k t m v h x y))
      ]
    where
      -- inside a mu the state's own iterate is closed, and the fixpoint has it; inside a nu the fixpoint is
      inside : (flag : Bool) → IsLaid look at (Fixpoint flag f) → Binds P at (Fixpoint flag f) → IsWithin (at + 1) f k
          → sets l at (Fixpoint flag f) e k s ≡ true
          → Step l look (choose l at (Fixpoint flag f) e) s k t m
          → ((d : Sets) → sets l (at + 1) f d k s ≡ true → Step l look (choose l (at + 1) f d) s k t m → sets l (at + 1) f d m t ≡ true)
          → sets l at (Fixpoint flag f) e m t ≡ true
      inside true laid binds v x y body_closed =
          let r : ℕ = rank l at f e k s in
          let q = rank_found l at f e k s l.states (omega arith) x in
          sets_mono l (at + 1) f (put e at (iterates true l at f e r)) (put e at (iterates true l at f e l.states))
          (put_mono l.states e e at (iterates true l at f e r) (iterates true l at f e l.states) (λ b s h x. x)
          (up_to l.states (body l at f e) (body_mono l at f e) r l.states q.1))
          m t (moves_below l (look k) (choose l at (Fixpoint true f) e k s) s t m h y.1) (body_closed (put e at (iterates true l at f e r)) q.0 y)
      inside false laid binds v x y body_closed = body_closed (put e at (sat l at (Fixpoint false f) e)) x y
  closed P at (Variable b) e laid binds lower s k t m w h x y =
      let i : k ≡ at = omega (arith, w.from, w.to) in
      let z = seen l look at k 0 s t m (VariableNode b) laid i y in
      let n = lower b binds in
      at_true (sets l at (Variable b) e) m b t s z.0 z.1 (ap (λ (u : ℕ → Bool). u s) (put_other e at (e b) b (λ q. omega arith))
      ∙ root_true l at (Variable b) e k s i x)

  -- ---- choices

  of_look : (at k c s : ℕ) (sh : Shape) → look at ≡ sh → k ≡ at → IsChoice l sh c s → IsChoice l (look k) c s
  of_look at k c s sh e h x = subst (λ y. IsChoice l y c s) (sym (ap look h ∙ e)) x

  other_choice : (k c d s : ℕ) → c ≡ d → IsChoice l (look k) d s → IsChoice l (look k) c s
  other_choice k c d s e x = subst (λ y. IsChoice l (look k) y s) (sym e) x

  one_of_two : (b : Bool) (x y : ℕ) → ((if b then x else y) ≡ x) ⊎ ((if b then x else y) ≡ y)
  one_of_two true x y = inl refl
  one_of_two false x y = inr refl

  chosen_target : (flag : Bool) (at : ℕ) (a : Action) (f : Norm) (e : Sets) (s : ℕ) → sat l at (Modality flag a f) e s ≡ true
      → IsChoice l (ModalityNode flag a (at + 1)) (first (sat l (at + 1) f e) (targets l a s)) s
  chosen_target true at a f e s x = (first_found (sat l (at + 1) f e) (targets l a s) x).0
  chosen_target false at a f e s x = tt

  -- what is chosen at a state with a node to whose set it belongs is a successor
  pub choices : (at : ℕ) (f : Norm) (e : Sets) → IsLaid look at f → (s k : ℕ) → IsWithin at f k → sets l at f e k s ≡ true
      → IsChoice l (look k) (choose l at f e k s) s
  choices at (Constant flag) e laid s k w x = let i : k ≡ at = omega (arith, w.from, w.to)
      in of_look at k 0 s (ConstantNode flag) laid i (root_true l at (Constant flag) e k s i x)
  choices at (Junction flag f g) e laid s k w x =
      elim (same_or_not k at) as (λ _. IsChoice l (look k) (choose l at (Junction flag f g) e k s) s) [
        | inl i ↦ other_choice k (choose l at (Junction flag f g) e k s) (if sat l (at + 1) f e s then at + 1 else at + 1 + size f) s
            (junction_choice l flag at f g e k s i)
            (of_look at k (if sat l (at + 1) f e s then at + 1 else at + 1 + size f) s (JunctionNode flag (at + 1) (at + 1 + size f)) laid.0 i
            (one_of_two (sat l (at + 1) f e s) (at + 1) (at + 1 + size f)))
        | inr i ↦ elim (below_or_not k (at + 1 + size f)) as (λ _. IsChoice l (look k) (choose l at (Junction flag f g) e k s) s) [
          | inl b ↦ other_choice k (choose l at (Junction flag f g) e k s) (choose l (at + 1) f e k s) s (left_choice l flag at f g e k s i b)
              (choices (at + 1) f e laid.1 s k (record { from = omega (arith, w.from); to = b })
              (set_at (sets l at (Junction flag f g) e) (sets l (at + 1) f e) k s (left_sets l at f g e (sat l at (Junction flag f g) e) k i b) x))
          | inr b ↦ other_choice k (choose l at (Junction flag f g) e k s) (choose l (at + 1 + size f) g e k s) s (right_choice l flag at f g e k s i b)
              (choices (at + 1 + size f) g e laid.2 s k (record { from = b; to = omega (arith, w.to) })
              (set_at (sets l at (Junction flag f g) e) (sets l (at + 1 + size f) g e) k s (right_sets l at f g e (sat l at (Junction flag f g) e) k b) x))
        ]
      ]
  choices at (Modality flag a f) e laid s k w x =
      elim (same_or_not k at) as (λ _. IsChoice l (look k) (choose l at (Modality flag a f) e k s) s) [
        | inl i ↦ other_choice k (choose l at (Modality flag a f) e k s) (first (sat l (at + 1) f e) (targets l a s)) s
            (ap (λ (u : ℕ → ℕ). u s) (put_here (choose l (at + 1) f e) at (λ s. first (sat l (at + 1) f e) (targets l a s)) k i))
            (of_look at k (first (sat l (at + 1) f e) (targets l a s)) s (ModalityNode flag a (at + 1)) laid.0 i
            (chosen_target flag at a f e s (root_true l at (Modality flag a f) e k s i x)))
        | inr i ↦ other_choice k (choose l at (Modality flag a f) e k s) (choose l (at + 1) f e k s) s
            (ap (λ (u : ℕ → ℕ). u s) (put_other (choose l (at + 1) f e) at (λ s. first (sat l (at + 1) f e) (targets l a s)) k i))
            (choices (at + 1) f e laid.1 s k (record { from = omega (arith, w.from); to = omega (arith, w.to) })
            (set_at (sets l at (Modality flag a f) e) (sets l (at + 1) f e) k s (one_sets l at f e (sat l at (Modality flag a f) e) k i) x))
      ]
  choices at (Fixpoint true f) e laid s k w x =
      elim (same_or_not k at) as (λ _. IsChoice l (look k) (choose l at (Fixpoint true f) e k s) s) [
        | inl i ↦ of_look at k (choose l at (Fixpoint true f) e k s) s (FixpointNode true (at + 1)) laid.0 i tt
        | inr i ↦ choices (at + 1) f (put e at (iterates true l at f e (rank l at f e k s))) laid.1 s k
            (record { from = omega (arith, w.from); to = omega (arith, w.to) }) (rank_found l at f e k s l.states (omega arith) x).0
      ]
  choices at (Fixpoint false f) e laid s k w x =
      elim (same_or_not k at) as (λ _. IsChoice l (look k) (choose l at (Fixpoint false f) e k s) s) [
        | inl i ↦ of_look at k (choose l at (Fixpoint false f) e k s) s (FixpointNode false (at + 1)) laid.0 i tt
        | inr i ↦ choices (at + 1) f (put e at (sat l at (Fixpoint false f) e)) laid.1 s k (record { from = omega (arith, w.from); to = omega (arith, w.to) }) x
      ]
  choices at (Variable b) e laid s k w x = of_look at k 0 s (VariableNode b) laid (omega (arith, w.from, w.to)) tt
