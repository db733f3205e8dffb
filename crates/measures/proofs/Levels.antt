-- What never rises along a cycle stays as it is.
use Rattle.measures.proofs.Common.{◌≡◌, ◌≢◌, ℕ, ◌<◌, ◌≤◌, false, List, [], ◌∷◌, refl, sym, ap, subst, ◌∙◌, inl, inr, arith, eqb_tells, IsPath, Game, greatest_met}
use Rattle.measures.proofs.Common.{is_odd}
use Rattle.measures.proofs.Cycles.{last_met, priority}

module _ (R Le : ℕ → ℕ → Type 0) (itself : (u : ℕ) → Le u u) (trans : (a b c : ℕ) → Le a b → Le b c → Le a c) (falls : (u t : ℕ) → R u t → Le t u) where
  end_low : (s : ℕ) (others : List ℕ) (t : ℕ) → IsPath R s others t → Le t s
  end_low s [] t path = subst (λ x. Le x s) path (itself s)
  end_low s (m ∷ others) t path = trans t m s (end_low m others t path.1) (falls s m path.0)

  back : (s : ℕ) (others : List ℕ) (t : ℕ) → Le s t → IsPath R s others t → IsPath (λ a b. R a b × Le a b) s others t
  back s [] t low path = path
  back s (m ∷ others) t low path = (
    (path.0, trans s t m low (end_low m others t path.1)),
    back m others t (trans m s t (falls s m path.0) low) path.1,
  )

  pub level : (u : ℕ) (others : List ℕ) → IsPath R u others u → IsPath (λ a b. R a b × Le a b) u others u
  level u others path = back u others u (itself u) path

-- Along edges on which numbers don't rise, and fall where the priority is even, no cycle's greatest priority is even.
module _ (g : Game) (R : ℕ → ℕ → Type 0) (number : ℕ → ℕ → ℕ) (weakly : (q u t : ℕ) → R u t → priority g u ≤ q → number q t ≤ number q u)
    (strictly : (u t : ℕ) → R u t → is_odd (priority g u) ≡ false → number (priority g u) t < number (priority g u) u) where
  module _ (q : ℕ) (even : is_odd q ≡ false) where
    abbrev Within : ℕ → ℕ → Type 0
    Within u t = R u t × (priority g u ≤ q)

    abbrev Level : ℕ → ℕ → Type 0
    Level u t = Within u t × (number q u ≤ number q t)

    within : (s : ℕ) (others : List ℕ) (t : ℕ) → priority g s ≤ q → greatest_met g others ≤ q → IsPath R s others t → IsPath Within s others t
    within s [] t h i path = path
    within s (m ∷ others) t h i path = ((path.0, h), within m others t (omega arith) (omega arith) path.1)

    below : (u t : ℕ) → Level u t → priority g u < q
    below u t s = elim (eqb_tells (priority g u) q) [
      | inl w ↦ (
          let falls = subst (λ p. number p t < number p u) w.1 (strictly u t s.0.0 (ap is_odd w.1 ∙ even)) in
          let stays = s.1 in
          absurd (omega arith))
      | inr w ↦ (let n = w.1 in let h = s.0.1 in omega arith)
    ]

    start_below : (s : ℕ) (others : List ℕ) (t : ℕ) → priority g t < q → IsPath Level s others t → priority g s < q
    start_below s [] t h path = subst (λ x. priority g x < q) (sym path) h
    start_below s (m ∷ others) t h path = below s m path.0

    all_below : (s : ℕ) (others : List ℕ) (t : ℕ) → priority g t < q → IsPath Level s others t → greatest_met g others < q
    all_below s [] t h path = omega arith
    all_below s (m ∷ others) t h path =
        let a = start_below m others t h path.1 in
        let b = all_below m others t h path.1 in
        omega arith

  pub no_even_cycle : (u : ℕ) (others : List ℕ) → others ≢ [] → IsPath R u others u → is_odd (greatest_met g others) ≡ false → ⊥
  no_even_cycle u [] some path even = some refl
  no_even_cycle u (m ∷ others) some path even =
      let q = greatest_met g (m ∷ others) in
      let flat = level (Within q even) (λ a b. number q a ≤ number q b) (λ a. omega arith) (λ a b c h i. omega arith) (λ a b s. weakly q a b s.0 s.1) u (m ∷ others)
      (within q even u (m ∷ others) u (last_met g R u (m ∷ others) u some path) (omega arith) path) in
      let h = all_below q even u (m ∷ others) u (below q even u m flat.0) flat in
      omega arith
