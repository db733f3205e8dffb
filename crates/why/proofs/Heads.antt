-- Visits to which a run comes back.
use Rattle.std.proofs.Common.{◌≡◌, ℕ, ◌+◌, ◌≤◌, ◌<◌, List, Bool, Some, false, length, sym, subst, inl, inr, arith, IsTrue, ◌∙◌}
use Rattle.std.specs.Prelude.{slice_get, slice_index_or, ◌↔◌}
use Rattle.std.proofs.lemmas.Bool.{cases_lt}
use Rattle.std.proofs.lemmas.Option.{slice_get_within}
use Rattle.why.specs.Story.{AreHeads, HasMarked}
use Rattle.why.specs.declared.visit.Continuation.TheVariants.{Back}
use Rattle.why.specs.declared.visit.Visit.{Visit}

-- so many first visits are looked at
abbrev pub AreSoFar : List Visit → List Bool → ℕ → Type 0
AreSoFar visits heads n =
    (i : ℕ) → i < length visits
    → IsTrue (slice_index_or heads i false) ↔ ((k : ℕ) × (v : Visit) × (k < n) × (slice_get visits k ≡ Some v) × (v.kind ≡ Back i))

pub heads_more : (visits : List Visit) (old new : List Bool) (n : ℕ) (v : Visit) → length old ≡ length visits → slice_get visits n ≡ Some v
    → AreSoFar visits old n → HasMarked v.kind old new
    → AreSoFar visits new (n + 1)
heads_more visits old new n v long at so marked = λ i lt. (
  λ m. elim ((marked i (omega (arith, long, lt))).0 m) [
    | inl k ↦ (let h = (so i lt).0 k in let l = h.2 in (h.0, h.1, omega (arith, l), h.3, h.4))
    | inr b ↦ (n, v, omega arith, at, b)
  ],
  λ h. (marked i (omega (arith, long, lt))).1 (elim (cases_lt h.0 n) [
    | inl less ↦ inl ((so i lt).1 (h.0, h.1, less, h.3, h.4))
    | inr more ↦ (let l = h.2 in let e : h.0 ≡ n = omega (arith, l, more) in
        let same : Some h.1 ≡ Some v = sym (subst (λ k. slice_get visits k ≡ Some h.1) e h.3) ∙ at in
        let e_v : h.1 ≡ v = cc in inr (subst (λ (w : Visit). w.kind ≡ Back i) e_v h.4))
  ]),
)

pub heads_end : (visits : List Visit) (heads : List Bool) (n : ℕ) → length visits ≤ n → AreSoFar visits heads n → AreHeads visits heads
heads_end visits heads n all so = λ i lt. (
  λ m. (let h = (so i lt).0 m in (h.0, h.1, h.3, h.4)),
  λ h. (so i lt).1 (h.0, h.1, (let w = slice_get_within visits h.0 h.1 h.2 in omega (arith, w, all)), h.2, h.3),
)
