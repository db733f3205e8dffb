-- `modal flag r F` tells which states r leads from into what F makes.
use Rattle.std.proofs.Common.{◌≡◌, ℕ, zero, suc, ◌+◌, ◌<◌, ◌≤◌, ◌⊎◌, ◌↔◌, Bool, List, [], ◌∷◌, refl, sym, ◌∙◌, ap, subst, inl, inr, arith}
use Rattle.systems.specs.Path.{IsPath}
use Rattle.systems.specs.System.{System, IsSystem}
use Rattle.calculus.specs.Tree.{Action, Regular, Step, Then, Either, Star, Plus}
use Rattle.calculus.specs.Meaning.{Leads, iterate}
use Rattle.calculus.specs.NormalTree.{Norm, Variable, size, two, loop_of, modal}
use Rattle.game.specs.Arena.{targets}
use Rattle.laws.proofs.Flags.{under, under_is, under_under, not_flag, same_test}
use Rattle.calculus.proofs.Fixpoints.{IsDecided, IsWithin, in_closed, low_closed}
use Rattle.calculus.proofs.Inside.{leads_inside}
use Rattle.laws.proofs.Targets.{target_leads, leads_target}
use Rattle.laws.proofs.Sat.{put, turns, sat, from, put_here, put_other, junction_tells, modality_tells}

-- ---- environments

-- a number is at most itself
pub at_most_itself : (n : ℕ) → n ≤ n
at_most_itself n = omega arith

-- the same sets below a number
abbrev pub Agree : ℕ → (ℕ → ℕ → Bool) → (ℕ → ℕ → Bool) → Type 0
Agree lo u v = (b : ℕ) → b < lo → v b ≡ u b

-- the trees that F makes from lo on have this test
abbrev pub Makes : System → ℕ → (ℕ → ℕ → Bool) → (ℕ → Norm) → (ℕ → Bool) → Type 0
Makes l lo u F p = (at : ℕ) → lo ≤ at → (v : ℕ → ℕ → Bool) → Agree lo u v → (s : ℕ) → s < l.states → sat l at (F at) v s ≡ p s

-- r leads to a state where the test is the flag
abbrev pub Reaches : System → Bool → Regular → (ℕ → Bool) → ℕ → Type 0
Reaches l flag r p s = (t : ℕ) × Leads l r s t × (p t ≡ flag)

-- what the step makes of F is the flag where this holds of F's test
abbrev pub MeansBy : System → Bool → ((ℕ → Norm) → ℕ → Norm) → ((ℕ → Bool) → ℕ → Type 0) → Type 0
MeansBy l flag step P =
    (lo : ℕ) (u : ℕ → ℕ → Bool) (F : ℕ → Norm) (p : ℕ → Bool) → Makes l lo u F p
    → (at : ℕ) → lo ≤ at → (v : ℕ → ℕ → Bool) → Agree lo u v → (s : ℕ) → s < l.states → (sat l at (step F at) v s ≡ flag) ↔ P p s

made : (l : System) (flag : Bool) (step : (ℕ → Norm) → ℕ → Norm) (P : (ℕ → Bool) → ℕ → Type 0) → MeansBy l flag step P →
    (lo : ℕ) (u : ℕ → ℕ → Bool) (F : ℕ → Norm) (p : ℕ → Bool) → Makes l lo u F p → Makes l lo u (step F) (sat l lo (step F lo) u)
made l flag step P by lo u F p makes at low v agree s lt =
    same_test flag (sat l at (step F at) v s) (sat l lo (step F lo) u s) (P p s) (by lo u F p makes at low v agree s lt)
    (by lo u F p makes lo (at_most_itself lo) u (λ b h. refl) s lt)

-- ---- two operands, and binders

-- two operands are the flag where one of them is
pub two_tells : (l : System) (flag : Bool) (L R : ℕ → Norm) (at : ℕ) (v : ℕ → ℕ → Bool) (s : ℕ) →
    (sat l at (two flag L R at) v s ≡ flag) ↔ ((sat l (at + 1) (L (at + 1)) v s ≡ flag)
    ⊎ (sat l (at + 1 + size (L (at + 1))) (R (at + 1 + size (L (at + 1)))) v s ≡ flag))
two_tells l flag L R at v s = junction_tells flag (sat l (at + 1) (L (at + 1)) v s) (sat l (at + 1 + size (L (at + 1))) (R (at + 1 + size (L (at + 1)))) v s)

-- tests and sets go through their turns together
pub turns_are : (n k : ℕ) (flag : Bool) (G : (ℕ → Bool) → ℕ → Bool) (F : (ℕ → Type 0) → ℕ → Type 0) (p : ℕ → Bool) (P : ℕ → Type 0) →
    ((v : ℕ → Bool) (V : ℕ → Type 0) → ((t : ℕ) → t < n → (v t ≡ flag) ↔ V t) → (t : ℕ) → t < n → (G v t ≡ flag) ↔ F V t) →
    ((t : ℕ) → t < n → (p t ≡ flag) ↔ P t) → (t : ℕ) → t < n → (turns k G p t ≡ flag) ↔ iterate k F P t
turns_are n zero flag G F p P step from t lt = from t lt
turns_are n (suc k) flag G F p P step from t lt = step (turns k G p) (iterate k F P) (turns_are n k flag G F p P step from) t lt

-- ---- a step

module _ (l : System) (ok : IsSystem l) where
  step_means : (flag : Bool) (a : Action) → MeansBy l flag (modal flag (Step a)) (Reaches l flag (Step a))
  step_means flag a lo u F p makes at low v agree s lt =
      let i = modality_tells flag (sat l (at + 1) (F (at + 1)) v) (targets l a s) in
      let same : (t : ℕ) → Leads l (Step a) s t → sat l (at + 1) (F (at + 1)) v t
      ≡ p t = λ t go. makes (at + 1) (omega arith) v agree t (leads_inside l ok (Step a) s t lt go) in (
        λ h. let w = i.0 h in let go = target_leads l a s w.0 w.1 in (w.0, go, sym (same w.0 go) ∙ w.2),
        λ h. i.1 (h.0, leads_target l ok a s h.0 lt h.1, same h.0 h.1 ∙ h.2),
      )

  -- ---- one regular formula after another step

  after_means : (flag : Bool) (r : Regular) (step : (ℕ → Norm) → ℕ → Norm) (P : (ℕ → Bool) → ℕ → Type 0) → MeansBy l flag (modal flag r) (Reaches l flag r)
      → MeansBy l flag step P →
      MeansBy l flag (λ F. modal flag r (step F)) (λ p s. (m : ℕ) × Leads l r s m × P p m)
  after_means flag r step P first second lo u F p makes at low v agree s lt =
      let i = first lo u (step F) (sat l lo (step F lo) u) (made l flag step P second lo u F p makes) at low v agree s lt in (
        λ h. let w = i.0 h in (w.0, w.1, (second lo u F p makes lo (at_most_itself lo) u (λ b h. refl) w.0 (leads_inside l ok r s w.0 lt w.1)).0 w.2),
        λ h. i.1 (h.0, h.1, (second lo u F p makes lo (at_most_itself lo) u (λ b h. refl) h.0 (leads_inside l ok r s h.0 lt h.1)).1 h.2),
      )

  either_means : (flag : Bool) (r q : Regular) → MeansBy l flag (modal flag r) (Reaches l flag r) → MeansBy l flag (modal flag q) (Reaches l flag q)
      → MeansBy l flag (modal flag (Either r q)) (Reaches l flag (Either r q))
  either_means flag r q first second lo u F p makes at low v agree s lt =
      let i = two_tells l flag (modal flag r F) (modal flag q F) at v s in
      let j = first lo u F p makes (at + 1) (omega arith) v agree s lt in
      let k = second lo u F p makes (at + 1 + size (modal flag r F (at + 1))) (omega arith) v agree s lt in (
        λ h. elim (i.0 h) [ inl x ↦ (let w = j.0 x in (w.0, inl w.1, w.2)) | inr x ↦ (let w = k.0 x in (w.0, inr w.1, w.2)) ],
        λ h. i.1 (elim h.1 [ inl go ↦ inl (j.1 (h.0, go, h.2)) | inr go ↦ inr (k.1 (h.0, go, h.2)) ]),
      )

  -- ---- a loop

  module _ (flag : Bool) (r : Regular) (ih : MeansBy l flag (modal flag r) (Reaches l flag r)) (lo : ℕ) (u : ℕ → ℕ → Bool) (F : ℕ → Norm) (p : ℕ → Bool)
      (makes : Makes l lo u F p) (at : ℕ) (low : lo ≤ at) (v : ℕ → ℕ → Bool) (agree : Agree lo u v) where
    abbrev turn : (ℕ → Bool) → ℕ → Bool
    turn set = sat l (at + 1) (two flag F (modal flag r (λ _. Variable at)) (at + 1)) (put v at set)

    -- the states of p, and those from which r leads into the set
    abbrev wave : (ℕ → Type 0) → ℕ → Type 0
    wave U s = (p s ≡ flag) ⊎ ((t : ℕ) × Leads l r s t × U t)

    var_makes : (x : ℕ → Bool) → Makes l (at + 1) (put v at x) (λ _. Variable at) x
    var_makes x place above w same s lt = ap (λ g. g s) (same at (omega arith) ∙ put_here v at x at refl)

    still : (x : ℕ → Bool) → Agree lo u (put v at x)
    still x b h = put_other v at x b (λ e. omega arith) ∙ agree b h

    turn_tells : (x : ℕ → Bool) (s : ℕ) → s < l.states → (turn x s ≡ flag) ↔ ((p s ≡ flag) ⊎ Reaches l flag r x s)
    turn_tells x s lt =
        let i = two_tells l flag F (modal flag r (λ _. Variable at)) (at + 1) (put v at x) s in
        let e = makes (at + 1 + 1) (omega arith) (put v at x) (still x) s lt in
        let j = ih (at + 1) (put v at x) (λ _. Variable at) x (var_makes x) (at + 1 + 1 + size (F (at + 1 + 1))) (omega arith) (put v at x)
        (λ b h. refl) s lt in (
          λ h. elim (i.0 h) [ inl k ↦ inl (sym e ∙ k) | inr k ↦ inr (j.0 k) ],
          λ h. i.1 (elim h [ inl k ↦ inl (e ∙ k) | inr k ↦ inr (j.1 k) ]),
        )

    turn_waves : (x : ℕ → Bool) (U : ℕ → Type 0) → ((t : ℕ) → t < l.states → (x t ≡ flag) ↔ U t) → (s : ℕ) → s < l.states → (turn x s ≡ flag) ↔ wave U s
    turn_waves x U same s lt =
        let i = turn_tells x s lt in (
          λ h. elim (i.0 h) [ inl k ↦ inl k | inr w ↦ inr (w.0, w.1, (same w.0 (leads_inside l ok r s w.0 lt w.1)).0 w.2) ],
          λ h. i.1 (elim h [ inl k ↦ inl k | inr w ↦ inr (w.0, w.1, (same w.0 (leads_inside l ok r s w.0 lt w.1)).1 w.2) ]),
        )

    wave_grows : (U V : ℕ → Type 0) → IsWithin l.states U V → IsWithin l.states (wave U) (wave V)
    wave_grows U V uv s lt (inl k) = inl k
    wave_grows U V uv s lt (inr w) = inr (w.0, w.1, uv w.0 (leads_inside l ok r s w.0 lt w.1) w.2)

    wave_decides : (U : ℕ → Type 0) → IsDecided l.states U → IsDecided l.states (wave U)
    wave_decides U d = (
      λ s. under flag (turn (λ t. under flag (d.0 t)) s),
      λ s lt.
          let i = under_is flag (turn (λ t. under flag (d.0 t)) s) in
          let j = turn_waves (λ t. under flag (d.0 t)) U (λ t tl.
          (λ h. (d.1 t tl).0 ((under_under flag (d.0 t)).0 h), λ h. (under_under flag (d.0 t)).1 ((d.1 t tl).1 h))) s lt in
          (λ h. j.0 (i.0 h), λ h. i.1 (j.1 h)),
    )

    inward : (s : ℕ) → s < l.states → wave (λ s. Reaches l flag (Star r) p s) s → Reaches l flag (Star r) p s
    inward s lt (inl k) = (s, ([], refl), k)
    inward s lt (inr w) = (w.2.0, (w.0 ∷ w.2.1.0, (w.1, w.2.1.1)), w.2.2)

    along : (s : ℕ) (states : List ℕ) (t : ℕ) → s < l.states → IsPath (Leads l r) s states t → p t ≡ flag → iterate l.states wave (λ t. ⊥) s
    along s [] t lt path k = low_closed l.states wave wave_grows wave_decides s lt (inl (subst (λ x. p x ≡ flag) (sym path) k))
    along s (m ∷ states) t lt path k = low_closed l.states wave wave_grows wave_decides s lt
        (inr (m, path.0, along m states t (leads_inside l ok r s m lt path.0) path.1 k))

    loop_tells : (s : ℕ) → s < l.states → (sat l at (loop_of flag (modal flag r) F at) v s ≡ flag) ↔ Reaches l flag (Star r) p s
    loop_tells s lt =
        let i = turns_are l.states l.states flag turn wave (from flag) (λ t. ⊥) turn_waves (λ t tl. (λ h. not_flag flag h, λ h. absurd h)) s lt in (
          λ h. in_closed l.states wave wave_grows (λ s. Reaches l flag (Star r) p s) inward l.states s lt (i.0 h),
          λ h. i.1 (along s h.1.0 h.0 lt h.1.1 h.2),
        )

  loop_means : (flag : Bool) (r : Regular) → MeansBy l flag (modal flag r) (Reaches l flag r)
      → MeansBy l flag (loop_of flag (modal flag r)) (Reaches l flag (Star r))
  loop_means flag r ih lo u F p makes at low v agree s lt = loop_tells flag r ih lo u F p makes at low v agree s lt

  pub modal_means : (r : Regular) (flag : Bool) → MeansBy l flag (modal flag r) (Reaches l flag r)
  modal_means (Step a) flag lo u F p makes at low v agree s lt = step_means flag a lo u F p makes at low v agree s lt
  modal_means (Then r q) flag lo u F p makes at low v agree s lt =
      let i = after_means flag r (modal flag q) (Reaches l flag q) (modal_means r flag) (modal_means q flag) lo u F p makes at low v agree s lt in
      (λ h. let w = i.0 h in (w.2.0, (w.0, w.1, w.2.1), w.2.2), λ h. i.1 (h.1.0, h.1.1, (h.0, h.1.2, h.2)))
  modal_means (Either r q) flag lo u F p makes at low v agree s lt = either_means flag r q (modal_means r flag)
      (modal_means q flag) lo u F p makes at low v agree s lt
  modal_means (Star r) flag lo u F p makes at low v agree s lt = loop_means flag r (modal_means r flag) lo u F p makes at low v agree s lt
  modal_means (Plus r) flag lo u F p makes at low v agree s lt =
      let i = after_means flag r (loop_of flag (modal flag r)) (Reaches l flag (Star r)) (modal_means r flag)
      (loop_means flag r (modal_means r flag)) lo u F p makes at low v agree s lt in
      (λ h. let w = i.0 h in (w.2.0, (w.0, w.2.1.0, w.1, w.2.1.1), w.2.2), λ h. i.1 (h.1.0, h.1.2, (h.0, (h.1.1, h.1.3), h.2)))
