-- Worked examples of meanings.
use Rattle.std.specs.Prelude.{◌≡◌, ℕ, ◌⊎◌, List, [], codes, refl}
use Rattle.std.proofs.Common.{zero, suc, arith, inl, inr, sym, ap, subst, ◌∙◌, true≢false}
use Rattle.systems.specs.System.{Arrow}
use Rattle.vectors.specs.Systems.{two_states}
use Rattle.calculus.specs.Tree.{Formula, Step, Then, Star, Plus, Mu, Nu, Or, Dia, Var}
use Rattle.calculus.specs.Holds.{holds}
use Rattle.vectors.specs.Formulas.{often_a, name_a, name_b}
use Rattle.calculus.specs.Meaning.{Satisfies, HasArrow, Leads}

-- a step by each of the two-state system's arrows
abbrev a_step : Leads two_states (Step name_a) 0 1
a_step = (codes "a", (0, omega arith, refl), refl)

abbrev b_step : Leads two_states (Step name_b) 1 0
b_step = (codes "b", (1, omega arith, refl), refl)

-- both states of the two-state system are in nu X. mu Y. (<a>X || <b>Y): the a-step goes round for ever
in_often_a : Satisfies two_states often_a 0
in_often_a = inl (1, a_step, inr (0, b_step, inl (1, a_step, tt)))

in_often_a_too : Satisfies two_states often_a 1
in_often_a_too = inr (0, b_step, inl (1, a_step, inr (0, b_step, inl (1, a_step, tt))))

parts : {a b : Arrow} → a ≡ b → (b.source ≡ a.source) × (b.label ≡ a.label) × (b.target ≡ a.target)
parts e = (sym (ap (λ (c : Arrow). c.source) e), sym (ap (λ (c : Arrow). c.label) e), sym (ap (λ (c : Arrow). c.target) e))

-- the two-state system has no other arrows
two_states_arrows : (s : ℕ) (label : List ℕ) (t : ℕ) → HasArrow two_states s label t → ((s ≡ 0) × (label ≡ codes "a") × (t ≡ 1))
    ⊎ ((s ≡ 1) × (label ≡ codes "b") × (t ≡ 0))
two_states_arrows s label t (zero, h, e) = inl (parts e)
two_states_arrows s label t (suc zero, h, e) = inr (parts e)
two_states_arrows s label t (suc (suc k), h, e) = absurd (omega arith)

a_only : (s t : ℕ) → Leads two_states (Step name_a) s t → (s ≡ 0) × (t ≡ 1)
a_only s t h = elim (two_states_arrows s h.0 t h.1) [ inl w ↦ (w.0, w.2) | inr w ↦ absurd (true≢false (sym h.2 ∙ ap (holds name_a) w.1)) ]

b_only : (s t : ℕ) → Leads two_states (Step name_b) s t → (s ≡ 1) × (t ≡ 0)
b_only s t h = elim (two_states_arrows s h.0 t h.1) [ inl w ↦ absurd (true≢false (sym h.2 ∙ ap (holds name_b) w.1)) | inr w ↦ (w.0, w.2) ]

-- one step from each state of the two-state system
from_0 : (X Y : ℕ → Type 0) → ((t : ℕ) × Leads two_states (Step name_a) 0 t × X t) ⊎ ((t : ℕ) × Leads two_states (Step name_b) 0 t × Y t) → X 1
from_0 X Y (inl w) = subst X (a_only 0 w.0 w.1).1 w.2
from_0 X Y (inr w) = absurd (omega (arith, b_only 0 w.0 w.1))

from_1 : (X Y : ℕ → Type 0) → ((t : ℕ) × Leads two_states (Step name_a) 1 t × X t) ⊎ ((t : ℕ) × Leads two_states (Step name_b) 1 t × Y t) → Y 0
from_1 X Y (inl w) = absurd (omega (arith, a_only 1 w.0 w.1))
from_1 X Y (inr w) = subst Y (b_only 1 w.0 w.1).1 w.2

-- mu Y. nu X. (<a>X || <b>Y) holds nowhere in the two-state system
abbrev swapped : Formula
swapped = Mu (codes "Y") (Nu (codes "X") (Or (Dia (Step name_a) (Var (codes "X"))) (Dia (Step name_b) (Var (codes "Y")))))

not_in_swapped : Satisfies two_states swapped 0 → ⊥
not_in_swapped h = from_1 _ (λ _. ⊥) (from_0 _ _ (from_1 _ _ (from_0 _ _ h)))

not_in_swapped_too : Satisfies two_states swapped 1 → ⊥
not_in_swapped_too h = from_1 _ (λ _. ⊥) (from_0 _ _ (from_1 _ _ h))

-- no step at all, and a step and back again
stays : Leads two_states (Star (Step name_a)) 0 0
stays = ([], refl)

goes_round : Leads two_states (Plus (Then (Step name_a) (Step name_b))) 0 0
goes_round = (0, [], (1, a_step, b_step), refl)
