-- Over sets that tests tell, the meaning of a formula is a set that a test tells.
use Rattle.std.proofs.Common.{ℕ, zero, suc, ◌<◌, ◌⊎◌, ◌↔◌, Bool, true, false, not, ◌&&◌, ◌||◌, List, [], ◌∷◌, refl, sym, subst, inl, inr}
use Rattle.std.specs.Prelude.{IsTrue, MatchBool}
use Rattle.std.specs.List.{list_any}
use Rattle.std.specs.Str.{bytes_eq}
use Rattle.systems.specs.Path.{IsPath}
use Rattle.systems.specs.System.{System, IsSystem}
use Rattle.calculus.specs.Tree.{Action, Regular, Step, Then, Either, Star, Plus, Formula, True, False, Var, Not, And, Or, Implies, Dia, Box, Mu, Nu}
use Rattle.calculus.specs.Meaning.{Leads, Env, with_set, iterate, mean}
use Rattle.calculus.proofs.Telling.{false_is_none, of_not, of_and, of_or, of_implies}
use Rattle.calculus.proofs.Inside.{leads_inside}
use Rattle.calculus.proofs.Entering.{enters, enters_leads}
use Rattle.calculus.proofs.Fixpoints.{IsDecided, IsWithin, in_closed, low, low_closed}

-- from all marked: none is unmarked
of_all : (b : Bool) (P : Type 0) → IsTrue b ↔ P → (IsTrue (not b) → ⊥) → P
of_all true P h never = h.0 refl
of_all false P h never = absurd (never refl)

none_of : (b : Bool) → IsTrue (not b) → IsTrue b → ⊥
none_of true out into = false_is_none out
none_of false out into = false_is_none into

module _ (n : ℕ) where
  not_decided : (P : ℕ → Type 0) → IsDecided n P → IsDecided n (λ s. P s → ⊥)
  not_decided P (u, h) = (λ s. not (u s), λ s lt. of_not (u s) (P s) (h s lt))

  and_decided : (P Q : ℕ → Type 0) → IsDecided n P → IsDecided n Q → IsDecided n (λ s. P s × Q s)
  and_decided P Q (u, h) (v, k) = (λ s. u s && v s, λ s lt. of_and (u s) (v s) (P s) (Q s) (h s lt) (k s lt))

  or_decided : (P Q : ℕ → Type 0) → IsDecided n P → IsDecided n Q → IsDecided n (λ s. P s ⊎ Q s)
  or_decided P Q (u, h) (v, k) = (λ s. u s || v s, λ s lt. of_or (u s) (v s) (P s) (Q s) (h s lt) (k s lt))

  implies_decided : (P Q : ℕ → Type 0) → IsDecided n P → IsDecided n Q → IsDecided n (λ s. P s → Q s)
  implies_decided P Q (u, h) (v, k) = (λ s. not (u s) || v s, λ s lt. of_implies (u s) (v s) (P s) (Q s) (h s lt) (k s lt))

  same_decided : (P Q : ℕ → Type 0) → ((s : ℕ) → s < n → P s ↔ Q s) → IsDecided n P → IsDecided n Q
  same_decided P Q same (u, h) = (u, λ s lt. (λ e. (same s lt).0 ((h s lt).0 e), λ q. (h s lt).1 ((same s lt).1 q)))

  iterates_told : (k : ℕ) (P : ℕ → Type 0) → IsDecided n P → (F : (ℕ → Type 0) → ℕ → Type 0) → ((U : ℕ → Type 0) → IsDecided n U → IsDecided n (F U))
      → IsDecided n (iterate k F P)
  iterates_told zero P p F step = p
  iterates_told (suc k) P p F step = step (iterate k F P) (iterates_told k P p F step)

-- the regular formula leads from here into the set
abbrev pub IntoSet : System → Regular → (ℕ → Type 0) → ℕ → Type 0
IntoSet l r U s = (t : ℕ) × Leads l r s t × U t

module _ (l : System) (ok : IsSystem l) where
  step_decided : (a : Action) (U : ℕ → Type 0) → IsDecided l.states U → IsDecided l.states (IntoSet l (Step a) U)
  step_decided a U (u, h) = (
    λ s. list_any (enters a u s) l.arrows,
    λ s lt. (
      λ e. let w = (enters_leads l a u s).0 e in (w.0, w.1, (h w.0 (leads_inside l ok (Step a) s w.0 lt w.1)).0 w.2),
      λ w. (enters_leads l a u s).1 (w.0, w.1, (h w.0 (leads_inside l ok (Step a) s w.0 lt w.1)).1 w.2),
    ),
  )

  -- any number of steps: the iterates of one more
  module _ (r : Regular) (decides : (V : ℕ → Type 0) → IsDecided l.states V → IsDecided l.states (IntoSet l r V)) (U : ℕ → Type 0)
      (told : IsDecided l.states U) where
    wave : (ℕ → Type 0) → ℕ → Type 0
    wave V s = U s ⊎ IntoSet l r V s

    wave_grows : (V W : ℕ → Type 0) → IsWithin l.states V W → IsWithin l.states (wave V) (wave W)
    unfolding wave
    wave_grows V W vw s lt (inl here) = inl here
    wave_grows V W vw s lt (inr (t, go, there)) = inr (t, go, vw t (leads_inside l ok r s t lt go) there)

    wave_decides : (V : ℕ → Type 0) → IsDecided l.states V → IsDecided l.states (wave V)
    unfolding wave
    wave_decides V v = or_decided l.states U (IntoSet l r V) told (decides V v)

    wave_closed : IsWithin l.states (wave (IntoSet l (Star r) U)) (IntoSet l (Star r) U)
    unfolding wave
    wave_closed s lt (inl here) = (s, ([], λ _. s), here)
    wave_closed s lt (inr (m, go, (t, (states, path), there))) = (t, (m ∷ states, (go, path)), there)

    along : (s : ℕ) (states : List ℕ) (t : ℕ) → s < l.states → IsPath (Leads l r) s states t → U t → iterate l.states wave (λ x. ⊥) s
    unfolding wave
    along s [] t lt p there = low_closed l.states wave wave_grows wave_decides s lt (inl (subst U (sym p) there))
    along s (m ∷ states) t lt p there =
        low_closed l.states wave wave_grows wave_decides s lt (inr (m, p.0, along m states t (leads_inside l ok r s m lt p.0) p.1 there))

    star_decided : IsDecided l.states (IntoSet l (Star r) U)
    star_decided =
        same_decided l.states (iterate l.states wave (λ x. ⊥)) (IntoSet l (Star r) U)
        (λ s lt. (λ h. in_closed l.states wave wave_grows (IntoSet l (Star r) U) wave_closed l.states s lt h, λ w. along s w.1.0 w.0 lt w.1.1 w.2))
        (low l.states wave wave_grows wave_decides l.states)

  into_decided : (r : Regular) (U : ℕ → Type 0) → IsDecided l.states U → IsDecided l.states (IntoSet l r U)
  into_decided (Step a) U u = step_decided a U u
  into_decided (Then r q) U u =
      same_decided l.states (IntoSet l r (IntoSet l q U)) (IntoSet l (Then r q) U)
      (λ s lt. (λ w. (w.2.0, (w.0, w.1, w.2.1), w.2.2), λ w. (w.1.0, w.1.1, (w.0, w.1.2, w.2))))
      (into_decided r (IntoSet l q U) (into_decided q U u))
  into_decided (Either r q) U u =
      same_decided l.states (λ s. IntoSet l r U s ⊎ IntoSet l q U s) (IntoSet l (Either r q) U)
      (λ s lt. (
        λ w. elim w [ inl x ↦ (x.0, inl x.1, x.2) | inr x ↦ (x.0, inr x.1, x.2) ],
        λ w. elim (w.1) [ inl x ↦ inl (w.0, x, w.2) | inr x ↦ inr (w.0, x, w.2) ],
      ))
      (or_decided l.states (IntoSet l r U) (IntoSet l q U) (into_decided r U u) (into_decided q U u))
  into_decided (Star r) U u = star_decided r (into_decided r) U u
  into_decided (Plus r) U u =
      same_decided l.states (IntoSet l r (IntoSet l (Star r) U)) (IntoSet l (Plus r) U)
      (λ s lt. (λ w. (w.2.0, (w.0, w.2.1.0, w.1, w.2.1.1), w.2.2), λ w. (w.1.0, w.1.2, (w.0, (w.1.1, w.1.3), w.2))))
      (into_decided r (IntoSet l (Star r) U) (star_decided r (into_decided r) U u))

  -- the sets of all variables are told by tests
  abbrev pub Told : Env → Type 0
  Told e = (name : List ℕ) → IsDecided l.states (e name)

  pub with_told : (e : Env) (name : List ℕ) (U : ℕ → Type 0) → IsDecided l.states U → Told e → Told (with_set e name U)
  with_told e name U u told other = elim (bytes_eq other name) as (λ b. IsDecided l.states (λ s. MatchBool b (U s) (e other s)))
      [ true ↦ u | false ↦ told other ]

  pub mean_decided : (f : Formula) (e : Env) → Told e → IsDecided l.states (mean l f e)
  mean_decided True e told = (λ s. true, λ s lt. (λ _. tt, λ _. refl))
  mean_decided False e told = (λ s. false, λ s lt. (false_is_none, λ no. absurd no))
  mean_decided (Var name) e told = told name
  mean_decided (Not f) e told = not_decided l.states (mean l f e) (mean_decided f e told)
  mean_decided (And f g) e told = and_decided l.states (mean l f e) (mean l g e) (mean_decided f e told) (mean_decided g e told)
  mean_decided (Or f g) e told = or_decided l.states (mean l f e) (mean l g e) (mean_decided f e told) (mean_decided g e told)
  mean_decided (Implies f g) e told = implies_decided l.states (mean l f e) (mean l g e) (mean_decided f e told) (mean_decided g e told)
  mean_decided (Dia r f) e told = into_decided r (mean l f e) (mean_decided f e told)
  mean_decided (Box r f) e told =
      same_decided l.states (λ s. IntoSet l r (λ t. mean l f e t → ⊥) s → ⊥) (mean l (Box r f) e)
      (λ s lt. (
        λ no t go. let w = mean_decided f e told in of_all (w.0 t) (mean l f e t) (w.1 t (leads_inside l ok r s t lt go))
            (λ out. no (t, go, λ m. none_of (w.0 t) out ((w.1 t (leads_inside l ok r s t lt go)).1 m))),
        λ all w. w.2 (all w.0 w.1),
      ))
      (not_decided l.states (IntoSet l r (λ t. mean l f e t → ⊥))
      (into_decided r (λ t. mean l f e t → ⊥) (not_decided l.states (mean l f e) (mean_decided f e told))))
  mean_decided (Mu name f) e told = iterates_told l.states l.states (λ t. ⊥) (λ s. false, λ s lt. (false_is_none, λ no. absurd no))
      (λ set. mean l f (with_set e name set)) (λ U u. mean_decided f (with_set e name U) (with_told e name U u told))
  mean_decided (Nu name f) e told = iterates_told l.states l.states (λ t. Unit {0}) (λ s. true, λ s lt. (λ _. tt, λ _. refl))
      (λ set. mean l f (with_set e name set)) (λ U u. mean_decided f (with_set e name U) (with_told e name U u told))
