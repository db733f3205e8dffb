-- Marks, one by one.
use Rattle.std.proofs.Common.{◌≡◌, ◌+◌, ◌<◌, ℕ, Bool, false, List, [], ◌∷◌, ◌++◌, get_or, sym, ◌∙◌, subst, inl, inr, length-append, arith}
use Rattle.std.specs.Prelude.{IsTrue, ◌↔◌}
use Rattle.std.proofs.Math.ListN.{get_or-append}
use Rattle.std.proofs.Math.Seq.{get_or-append_seam}
use Rattle.std.proofs.lemmas.Bool.{cases_order}
use Rattle.calculus.specs.Meaning.{marked, MarksOf}

-- the marks of one more
pub marks_more : (n : ℕ) (marks : List Bool) (mark : Bool) (P : ℕ → Type 0) → MarksOf n marks P → IsTrue mark ↔ P n → MarksOf (n + 1) (marks ++ mark ∷ []) P
marks_more n marks mark P m here = record { count = omega (arith, m.count, length-append marks (mark ∷ [])); exact = at }
  where
    at : (s : ℕ) → s < n + 1 → marked (marks ++ mark ∷ []) s ↔ P s
    at s h = elim (cases_order s n) [
      | inl e ↦ let seam : get_or (marks ++ mark ∷ []) s false
          ≡ mark = subst (λ k. get_or (marks ++ mark ∷ []) k false ≡ mark) (m.count ∙ sym e) (get_or-append_seam marks mark [] false) in
          subst (λ b. IsTrue b ↔ P s) (sym seam) (subst (λ k. IsTrue mark ↔ P k) (sym e) here)
      | inr w ↦ elim w [
        | inl lt ↦ subst (λ b. IsTrue b ↔ P s) (sym (get_or-append marks (mark ∷ []) false s (omega (arith, m.count, lt)))) (m.exact s lt)
        | inr gt ↦ absurd (omega (arith, h, gt))
      ]
    ]
