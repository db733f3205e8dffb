-- Along edges on which numbers don't rise, and fall at the vertices of some priorities, no cycle has such a priority as its greatest.
use Rattle.std.proofs.Common.{◌≡◌, ◌≢◌, ℕ, ◌<◌, ◌≤◌, max, List, [], ◌∷◌, refl, sym, ap, subst, inl, inr, arith}
use Rattle.std.proofs.lemmas.Bool.Decides.{eqb_tells}
use Rattle.systems.specs.Path.{IsPath}
use Rattle.game.specs.Game.{Game}
use Rattle.game.specs.Wins.{greatest_met}
use Rattle.measures.proofs.Cycles.{last_met, priority}

module _ (g : Game) (R : ℕ → ℕ → Type 0) (key : ℕ → ℕ → ℕ) (Falls : ℕ → Type 0)
    (weakly : (u t p : ℕ) → R u t → priority g u ≤ p → key p t ≤ key p u)
    (strictly : (u t : ℕ) → R u t → Falls (priority g u) → key (priority g u) t < key (priority g u) u) where
  strictly_at : (p u t : ℕ) → R u t → Falls p → priority g u ≡ p → key p t < key p u
  strictly_at p u t r f e = subst (λ q. key q t < key q u) e (strictly u t r (subst Falls (sym e) f))

  along : (p s : ℕ) (others : List ℕ) (t : ℕ) → priority g s ≤ p → greatest_met g others ≤ p → IsPath R s others t → key p t ≤ key p s
  along p s [] t h i path = let e : key p s ≡ key p t = ap (key p) path in omega arith
  along p s (m ∷ others) t h i path =
      let a = weakly s m p path.0 h in
      let b = along p m others t (omega arith) (omega arith) path.1 in
      omega arith

  -- where the greatest priority is such a one, and not at the end, it is met before
  below : (p s : ℕ) (others : List ℕ) (t : ℕ) → Falls p → max (priority g s) (greatest_met g others) ≡ p → priority g t < p → IsPath R s others t
      → key p t < key p s
  below p s [] t f h end path = let q : priority g s ≡ priority g t = ap (priority g) path in absurd (omega arith)
  below p s (m ∷ others) t f h end path = elim (eqb_tells (priority g s) p) [
    | inl w ↦ (
        let a = strictly_at p s m path.0 f w.1 in
        let b = along p m others t (omega arith) (omega arith) path.1 in
        omega arith)
    | inr w ↦ (
        let n = w.1 in
        let a = weakly s m p path.0 (omega arith) in
        let b = below p m others t f (omega arith) end path.1 in
        omega arith)
  ]

  pub no_cycle : (u : ℕ) (others : List ℕ) → others ≢ [] → IsPath R u others u → Falls (greatest_met g others) → ⊥
  no_cycle u [] n path f = n refl
  no_cycle u (m ∷ others) n path f =
      let p = greatest_met g (m ∷ others) in
      let last = last_met g R u (m ∷ others) u n path in
      elim (eqb_tells (priority g u) p) [
        | inl w ↦ (
            let a = strictly_at p u m path.0 f w.1 in
            let b = along p m others u (omega arith) (omega arith) path.1 in
            omega arith)
        | inr w ↦ (let x = w.1 in let a = below p u (m ∷ others) u f (omega arith) (omega arith) path in omega arith)
      ]
