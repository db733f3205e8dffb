-- What tests tell of what they test.
use Rattle.std.proofs.Common.{◌⊎◌, ◌↔◌, Bool, true, false, not, ◌&&◌, ◌||◌, refl, sym, inl, inr, true≢false}
use Rattle.std.specs.Prelude.{IsTrue}

pub false_is_none : IsTrue false → ⊥
false_is_none e = true≢false (sym e)

-- what the tests say
pub of_not : (b : Bool) (P : Type 0) → IsTrue b ↔ P → IsTrue (not b) ↔ (P → ⊥)
of_not true P h = (λ e. absurd (false_is_none e), λ no. absurd (no (h.0 refl)))
of_not false P h = (λ _ p. false_is_none (h.1 p), λ _. refl)

pub of_and : (b c : Bool) (P Q : Type 0) → IsTrue b ↔ P → IsTrue c ↔ Q → IsTrue (b && c) ↔ (P × Q)
of_and true c P Q h k = (λ e. (h.0 refl, k.0 e), λ x. k.1 x.1)
of_and false c P Q h k = (λ e. absurd (false_is_none e), λ x. absurd (false_is_none (h.1 x.0)))

pub of_or : (b c : Bool) (P Q : Type 0) → IsTrue b ↔ P → IsTrue c ↔ Q → IsTrue (b || c) ↔ (P ⊎ Q)
of_or true c P Q h k = (λ _. inl (h.0 refl), λ _. refl)
of_or false c P Q h k = (λ e. inr (k.0 e), λ x. elim x [ inl p ↦ absurd (false_is_none (h.1 p)) | inr q ↦ k.1 q ])

pub of_implies : (b c : Bool) (P Q : Type 0) → IsTrue b ↔ P → IsTrue c ↔ Q → IsTrue (not b || c) ↔ (P → Q)
of_implies true c P Q h k = (λ e _. k.0 e, λ f. k.1 (f (h.0 refl)))
of_implies false c P Q h k = (λ _ p. absurd (false_is_none (h.1 p)), λ _. refl)
