-- Each cycle of the moves has an even greatest priority.
use Rattle.std.proofs.Common.{◌≡◌, ℕ, zero, suc, ◌+◌, ◌<◌, ◌≤◌, ◌⊎◌, Bool, true, false, List, [], ◌∷◌, ◌++◌, append-nil, refl, sym, ap, ◌∙◌, subst, inl, inr}
use Rattle.std.proofs.Common.{true≢false, arith}
use Rattle.std.specs.Prelude.{◌%◌}
use Rattle.std.proofs.lemmas.Bool.Decides.{eqb_tells}
use Rattle.systems.specs.System.{System}
use Rattle.systems.specs.Path.{IsPath}
use Rattle.calculus.specs.NormalTree.{Norm, Constant, Junction, Modality, Fixpoint, Variable, size, Shape, ConstantNode, JunctionNode, ModalityNode, FixpointNode}
use Rattle.calculus.specs.NormalTree.{VariableNode}
use Rattle.game.specs.Arena.{targets}
use Rattle.measures.specs.Measure.{is_odd}
use Rattle.calculus.proofs.Sizes.{size_some}
use Rattle.laws.specs.Admissible.{IsEach, IsFitting}
use Rattle.laws.proofs.Flags.{same_or_not, below_or_not}
use Rattle.laws.proofs.Sat.{Sets, put, sat, iterates, sets, put_here, put_other}
use Rattle.laws.proofs.Trees.{IsWithin, Binds}
use Rattle.laws.proofs.NodeSets.{set_at, sets_low, true_root, left_sets, right_sets, one_sets}
use Rattle.laws.proofs.Moves.{first, rank, choose, Step, IsLaid, seen, move_choice, left_choice, right_choice, stay}
use Rattle.laws.proofs.Closed.{at_true, rank_found, closed}
use Rattle.laws.proofs.Paths.{path_into, level, sources, path_map, path_append, all_front, all_back, all_join, IsThrough, avoids_or_not, met, met_front}
use Rattle.laws.proofs.Paths.{met_last, met_bound}
use Rattle.laws.proofs.Spans.{IsHeld, held, bounded}

-- what is not odd is even
pub even_of : (p : ℕ) → is_odd p ≡ false → p % 2 ≡ 0
even_of p e = elim (eqb_tells (p % 2) 1) [ inl h ↦ absurd (true≢false (sym h.0 ∙ e)) | inr h ↦ (let n = h.1 in omega arith) ]

module _ (l : System) (look : ℕ → Shape) (prio : ℕ → ℕ) (st nd : ℕ → ℕ) where
  -- a move of the chosen strategy inside a tree, between places of its sets
  pub record IsMove (at : ℕ) (f : Norm) (e : Sets) (v w : ℕ) : Type 0 where
    pub from : IsWithin at f (nd v)
    pub to : IsWithin at f (nd w)
    pub state : st v < l.states
    pub state_to : st w < l.states
    pub here : sets l at f e (nd v) (st v) ≡ true
    pub there : sets l at f e (nd w) (st w) ≡ true
    pub step : Step l look (choose l at f e) (st v) (nd v) (st w) (nd w)

  -- the priority of a place's node
  abbrev pub number : ℕ → ℕ
  number v = prio (nd v)

  -- A part g of the tree that has the same sets and choices, and that no move leaves.
  inner : (at : ℕ) (f : Norm) (e : Sets) (b : ℕ) (g : Norm) (d : Sets)
      → ((k : ℕ) → IsWithin b g k → sets l at f e k ≡ sets l b g d k)
      → ((k s : ℕ) → IsWithin b g k → choose l at f e k s ≡ choose l b g d k s)
      → ((v w : ℕ) → IsWithin b g (nd v) → IsMove at f e v w → IsWithin b g (nd w))
      → (u : ℕ) (vs : List ℕ) (t : ℕ) → IsWithin b g (nd u) → IsPath (IsMove at f e) u vs t → IsPath (IsMove b g d) u vs t × IsWithin b g (nd t)
  inner at f e b g d same choice stays = path_into (λ v. IsWithin b g (nd v)) (IsMove at f e) (IsMove b g d)
      (λ v w p x.
      let q = stays v w p x in (
        q,
        record {
          from = p;
          to = q;
          state = x.state;
          state_to = x.state_to;
          here = set_at (sets l at f e) (sets l b g d) (nd v) (st v) (same (nd v) p) x.here;
          there = set_at (sets l at f e) (sets l b g d) (nd w) (st w) (same (nd w) q) x.there;
          step = move_choice l look (nd v) (choose l at f e (nd v) (st v)) (choose l b g d (nd v) (st v)) (st v) (st w) (nd w) (choice (nd v) (st v) p) x.step;
        },
      ))

  -- the rank inside a `mu`
  abbrev rank_at : ℕ → Norm → Sets → ℕ → ℕ
  rank_at at f e v = rank l at f e (nd v) (st v)

  module _ (P : ℕ → Type 0) (at : ℕ) (f : Norm) (e : Sets) (laid : IsLaid look at (Fixpoint true f)) (binds : Binds P at (Fixpoint true f))
      (lower : (b : ℕ) → P b → b < at) where
    found_at : (v : ℕ) → sets l at (Fixpoint true f) e (nd v) (st v) ≡ true
        → (sets l (at + 1) f (put e at (iterates true l at f e (rank_at at f e v))) (nd v) (st v) ≡ true) × (rank_at at f e v ≤ l.states)
    found_at v x = rank_found l at f e (nd v) (st v) l.states (omega arith) x

    deeper : (b : ℕ) → (b ≡ at) ⊎ P b → b < at + 1
    deeper b p = elim p [ inl u ↦ omega arith | inr u ↦ (let n = lower b u in omega arith) ]

    -- inside the body the rank does not rise
    mu_inside : (v w : ℕ) → (nd v ≡ at → ⊥) → IsMove at (Fixpoint true f) e v w → rank_at at f e w ≤ rank_at at f e v
    mu_inside v w i x =
        let q = found_at v x.here in
        let r : ℕ = rank_at at f e v in
        let k : IsWithin (at + 1) f (nd v) = record { from = omega (arith, x.from.from); to = omega (arith, x.from.to) } in
        let z = closed l look (λ b. (b ≡ at) ⊎ P b) (at + 1) f (put e at (iterates true l at f e r)) laid.1 binds deeper (st v) (nd v) (st w)
        (nd w) k x.state q.0 x.step in
        (rank_found l at f e (nd w) (st w) r q.1 z).1

    -- from the iterate to the one before it
    before : (r : ℕ) (s : ℕ) → iterates true l at f e r s ≡ true → (j : ℕ) × (r ≡ suc j) × (sat l (at + 1) f (put e at (iterates true l at f e j)) s ≡ true)
    before zero s x = absurd (true≢false (sym x))
    before (suc j) s x = (j, refl, x)

    -- at the `mu` itself it falls
    mu_root : (v w : ℕ) → nd v ≡ at → IsMove at (Fixpoint true f) e v w → rank_at at f e w < rank_at at f e v
    mu_root v w i x =
        let q = found_at v x.here in
        let r : ℕ = rank_at at f e v in
        let y : iterates true l at f e r (st v) ≡ true =
        ap (λ (u : ℕ → Bool). u (st v)) (sym (put_here e at (iterates true l at f e r) at refl)
        ∙ sym (sets_low l (at + 1) f (put e at (iterates true l at f e r)) at (omega arith)))
        ∙ (ap (λ (k : ℕ). sets l (at + 1) f (put e at (iterates true l at f e r)) k (st v)) (sym i) ∙ q.0) in
        let b = before r (st v) y in
        let z = seen l look at (nd v) (choose l at (Fixpoint true f) e (nd v) (st v)) (st v) (st w) (nd w) (FixpointNode true (at + 1)) laid.0 i x.step in
        let t : sets l (at + 1) f (put e at (iterates true l at f e b.0)) (nd w) (st w) ≡ true =
        at_true l look (sets l (at + 1) f (put e at (iterates true l at f e b.0))) (nd w) (at + 1) (st w) (st v) z.0 z.1
        (true_root l (at + 1) f (put e at (iterates true l at f e b.0)) (at + 1) (st v) refl b.2) in
        let g = rank_found l at f e (nd w) (st w) b.0 (omega (arith, q.1, b.1)) t in
        omega (arith, g.1, b.1)

    mu_falls : (v w : ℕ) → IsMove at (Fixpoint true f) e v w → rank_at at f e w ≤ rank_at at f e v
    mu_falls v w x = elim (same_or_not (nd v) at) [ inl i ↦ (let a = mu_root v w i x in omega arith) | inr i ↦ mu_inside v w i x ]

    abbrev Level : ℕ → ℕ → ℕ → Type 0
    Level r v w = IsMove at (Fixpoint true f) e v w × (rank_at at f e v ≡ r) × (rank_at at f e w ≡ r)

    level_not : (r : ℕ) (v w : ℕ) → Level r v w → nd v ≡ at → ⊥
    level_not r v w x i = let a = mu_root v w i x.0 in omega (arith, x.1, x.2)

    -- A cycle is one of the body's, at one iterate.
    pub mu_level : (u m : ℕ) (vs : List ℕ) → IsPath (IsMove at (Fixpoint true f) e) u (m ∷ vs) u
        → IsPath (IsMove (at + 1) f (put e at (iterates true l at f e (rank_at at f e u)))) u (m ∷ vs) u
    mu_level u m vs p =
        let r : ℕ = rank_at at f e u in
        let a = level (rank_at at f e) (IsMove at (Fixpoint true f) e) mu_falls u u (m ∷ vs) (omega arith) p in
        let b = sources (λ v. nd v ≡ at → ⊥) (Level r) (level_not r) u (m ∷ vs) u (level_not r u m a.0) a in
        path_map (λ v w. Level r v w × (nd v ≡ at → ⊥) × (nd w ≡ at → ⊥)) (IsMove (at + 1) f (put e at (iterates true l at f e r)))
        (λ v w x. record {
          from = record { from = (let h = x.0.0.from.from in let n = x.1 in omega arith); to = (let h = x.0.0.from.to in omega arith) };
          to = record { from = (let h = x.0.0.to.from in let n = x.2 in omega arith); to = (let h = x.0.0.to.to in omega arith) };
          state = x.0.0.state;
          state_to = x.0.0.state_to;
          here = subst (λ i. sets l (at + 1) f (put e at (iterates true l at f e i)) (nd v) (st v) ≡ true) x.0.1 (found_at v x.0.0.here).0;
          there = subst (λ i. sets l (at + 1) f (put e at (iterates true l at f e i)) (nd w) (st w) ≡ true) x.0.2 (found_at w x.0.0.there).0;
          step = subst (λ i. Step l look (choose l (at + 1) f (put e at (iterates true l at f e i))) (st v) (nd v) (st w) (nd w)) x.0.1 x.0.0.step;
        }) u (m ∷ vs) u b.0

  module _ (P : ℕ → Type 0) (at : ℕ) (f : Norm) (e : Sets) (laid : IsLaid look at (Fixpoint false f)) (binds : Binds P at (Fixpoint false f))
      (good : IsEach (IsFitting prio) at (Fixpoint false f)) where
    nu_held : (v w : ℕ) → IsMove at (Fixpoint false f) e v w → (nd v ≡ at) ⊎ ((at < nd v) × IsHeld look prio (nd v))
    nu_held v w x =
        elim (same_or_not (nd v) at) [
          | inl i ↦ inl i
          | inr i ↦ (let lo = x.from.from in let hi = x.from.to in
              inr (omega arith, held look prio (at + 1) f laid.1 good.1 (nd v) (record { from = omega arith; to = omega arith })))
        ]

    -- A cycle through the `nu` has its priority as the greatest.
    nu_through : (u : ℕ) (vs : List ℕ) → IsThrough (IsMove at (Fixpoint false f) e) nd at u vs u → met number vs ≡ prio at
    nu_through u vs t =
        let p = path_append (IsMove at (Fixpoint false f) e) t.place t.after u (t.start ∷ t.before) t.place t.on t.to in
        let b = (bounded look prio nd (IsMove at (Fixpoint false f) e) (λ v w x. x.step.0) at nu_held t.place
        (t.after ++ (t.start ∷ t.before)) t.place t.is p).0 in
        let a = all_join (λ v. number v ≤ prio at) (t.start ∷ t.before) t.after (all_back (λ v. number v ≤ prio at) t.after (t.start ∷ t.before) b)
        (all_front (λ v. number v ≤ prio at) t.after (t.start ∷ t.before) b) in
        let hi = met_bound number (prio at) ((t.start ∷ t.before) ++ t.after) a in
        let lo = met_last number (IsMove at (Fixpoint false f) e) u t.start t.before t.place t.to in
        let more = met_front number (t.start ∷ t.before) t.after in
        let is = ap prio t.is in
        let same = ap (met number) t.same in
        omega arith

  -- by recursion on the tree: a cycle is an operand's, or one of the body at one iterate of a mu, or passes a nu whose priority is its greatest
  pub cycles : (P : ℕ → Type 0) (at : ℕ) (f : Norm) (e : Sets) → IsLaid look at f → Binds P at f → ((b : ℕ) → P b → b < at) → IsEach (IsFitting prio) at f
      → (u m : ℕ) (vs : List ℕ) → IsPath (IsMove at f e) u (m ∷ vs) u → met number (m ∷ vs) % 2 ≡ 0
  cycles P at (Constant flag) e laid binds lower good u m vs p =
      absurd (seen l look at (nd u) 0 (st u) (st m) (nd m) (ConstantNode flag) laid (let lo = p.0.from.from in let hi = p.0.from.to in omega arith) p.0.step).0
  cycles P at (Variable b) e laid binds lower good u m vs p =
      let z = seen l look at (nd u) 0 (st u) (st m) (nd m) (VariableNode b) laid (let lo = p.0.from.from in let hi = p.0.from.to in omega arith) p.0.step in
      let n = lower b binds in let i : nd m ≡ b = z.0 in let lo = p.0.to.from in
      absurd (omega arith)
  cycles P at (Junction flag f g) e laid binds lower good u m vs p =
      let left = inner at (Junction flag f g) e (at + 1) f e
      (λ k w. left_sets l at f g e (sat l at (Junction flag f g) e) k (λ q. omega (arith, w.from)) (omega (arith, w.to)))
      (λ k s w. left_choice l flag at f g e k s (λ q. omega (arith, w.from)) (omega (arith, w.to)))
      (λ v w a x. elim (stay look P (at + 1) f laid.1 binds.0 (nd v) (nd w) a x.step.0) [
        | inl q ↦ q
        | inr q ↦
            (let n = lower (nd w) q in let lo = x.to.from in absurd (omega arith))
      ]) in
      let right = inner at (Junction flag f g) e (at + 1 + size f) g e
      (λ k w. right_sets l at f g e (sat l at (Junction flag f g) e) k w.from)
      (λ k s w. right_choice l flag at f g e k s (λ q. omega (arith, w.from)) w.from)
      (λ v w a x. elim (stay look P (at + 1 + size f) g laid.2 binds.1 (nd v) (nd w) a x.step.0) [
        | inl q ↦ q
        | inr q ↦
            (let n = lower (nd w) q in let lo = x.to.from in absurd (omega arith))
      ]) in
      let lo = p.0.from.from in let hi = p.0.from.to in let sf = size_some f in let sg = size_some g in
      elim (same_or_not (nd u) at) as (λ _. met number (m ∷ vs) % 2 ≡ 0) [
        | inl i ↦ (
            let z = seen l look at (nd u) (choose l at (Junction flag f g) e (nd u) (st u)) (st u) (st m) (nd m)
            (JunctionNode flag (at + 1) (at + 1 + size f)) laid.0 i p.0.step in
            elim z.0 as (λ _. met number (m ∷ vs) % 2 ≡ 0) [
              | inl j ↦ (let w = (left m vs u (record { from = omega arith; to = omega arith }) p.1).1 in absurd (omega (arith, w.from)))
              | inr j ↦ (let w = (right m vs u (record { from = omega arith; to = omega arith }) p.1).1 in absurd (omega (arith, w.from)))
            ])
        | inr i ↦ elim (below_or_not (nd u) (at + 1 + size f)) as (λ _. met number (m ∷ vs) % 2 ≡ 0) [
          | inl b ↦ cycles P (at + 1) f e laid.1 binds.0 (λ b q. let n = lower b q in omega arith) good.1 u m vs
              (left u (m ∷ vs) u (record { from = omega arith; to = b }) p).0
          | inr b ↦ cycles P (at + 1 + size f) g e laid.2 binds.1 (λ b q. let n = lower b q in omega arith) good.2 u m vs
              (right u (m ∷ vs) u (record { from = b; to = omega arith }) p).0
        ]
      ]
  cycles P at (Modality flag a f) e laid binds lower good u m vs p =
      let in_body = inner at (Modality flag a f) e (at + 1) f e
      (λ k w. one_sets l at f e (sat l at (Modality flag a f) e) k (λ q. omega (arith, w.from)))
      (λ k s w. ap (λ (u : ℕ → ℕ). u s) (put_other (choose l (at + 1) f e) at (λ s. first (sat l (at + 1) f e) (targets l a s)) k (λ q. omega (arith, w.from))))
      (λ v w b x. elim (stay look P (at + 1) f laid.1 binds (nd v) (nd w) b x.step.0)
      [ inl q ↦ q | inr q ↦ (let n = lower (nd w) q in let lo = x.to.from in absurd (omega arith)) ]) in
      let lo = p.0.from.from in let hi = p.0.from.to in let sf = size_some f in
      elim (same_or_not (nd u) at) as (λ _. met number (m ∷ vs) % 2 ≡ 0) [
        | inl i ↦ (
            let z = seen l look at (nd u) (choose l at (Modality flag a f) e (nd u) (st u)) (st u) (st m) (nd m)
            (ModalityNode flag a (at + 1)) laid.0 i p.0.step in
            let j : nd m ≡ at + 1 = z.0 in
            let w = (in_body m vs u (record { from = omega arith; to = omega arith }) p.1).1 in absurd (omega (arith, w.from)))
        | inr i ↦ cycles P (at + 1) f e laid.1 binds (λ b q. let n = lower b q in omega arith) good.1 u m vs
            (in_body u (m ∷ vs) u (record { from = omega arith; to = omega arith }) p).0
      ]
  cycles P at (Fixpoint true f) e laid binds lower good u m vs p =
      cycles (λ b. (b ≡ at) ⊎ P b) (at + 1) f (put e at (iterates true l at f e (rank_at at f e u))) laid.1 binds
      (deeper P at f e laid binds lower) good.1 u m vs
      (mu_level P at f e laid binds lower u m vs p)
  cycles P at (Fixpoint false f) e laid binds lower good u m vs p =
      let done : IsThrough (IsMove at (Fixpoint false f) e) nd at u (m ∷ vs) u → met number (m ∷ vs) % 2 ≡ 0 = λ t. ap (λ n. n % 2)
      (nu_through P at f e laid binds good u (m ∷ vs) t) ∙ even_of (prio at) good.0.0 in
      elim (same_or_not (nd u) at) as (λ _. met number (m ∷ vs) % 2 ≡ 0) [
        | inl i ↦ done (record { place = u; start = m; before = vs; after = []; is = i; to = p; on = refl; same = sym (append-nil (m ∷ vs)) })
        | inr i ↦ elim (avoids_or_not (IsMove at (Fixpoint false f) e) nd at u (m ∷ vs) u p) as (λ _. met number (m ∷ vs) % 2 ≡ 0) [
          | inl q ↦ cycles (λ b. (b ≡ at) ⊎ P b) (at + 1) f (put e at (sat l at (Fixpoint false f) e)) laid.1 binds
              (λ b x. elim x [ inl y ↦ omega arith | inr y ↦ (let n = lower b y in omega arith) ]) good.1 u m vs
              (path_into (λ v. nd v ≡ at → ⊥) (λ v w. IsMove at (Fixpoint false f) e v w × (nd w ≡ at → ⊥))
              (IsMove (at + 1) f (put e at (sat l at (Fixpoint false f) e)))
              (λ v w n x. (
                x.1,
                record {
                  from = record { from = (let h = x.0.from.from in omega arith); to = (let h = x.0.from.to in omega arith) };
                  to = record { from = (let h = x.0.to.from in let k = x.1 in omega arith); to = (let h = x.0.to.to in omega arith) };
                  state = x.0.state;
                  state_to = x.0.state_to;
                  here = x.0.here;
                  there = x.0.there;
                  step = x.0.step;
                },
              )) u (m ∷ vs) u i q).0
          | inr t ↦ done t
        ]
      ]
