-- Marks of all states, of the others, of both and of either.
use Rattle.std.proofs.Common.{◌≡◌, ℕ, ◌<◌, ◌⊎◌, ◌↔◌, Bool, true, false, not, ◌&&◌, ◌||◌, List, [], ◌∷◌, length, map, refl, subst, sym, ap, ◌∙◌}
use Rattle.std.proofs.Common.{inl, inr, arith}
use Rattle.std.proofs.lemmas.List.{length-map, get_or-map}
use Rattle.std.proofs.lemmas.Slice.Zip.{length-zip, get_or-zip}
use Rattle.std.specs.Prelude.{zip, slice_index_or, IsTrue}
use mathlib.Core.Bool.{beq}
use lib.Pointwise.{pointwise}
use Rattle.calculus.specs.Meaning.{MarksOf}
use Rattle.calculus.proofs.Telling.{false_is_none, of_not, of_and, of_or}

abbrev pub at : List Bool → ℕ → Bool
at ms s = slice_index_or ms s false

pub at_zip : (f : Bool × Bool → Bool) (ms ns : List Bool) (s : ℕ) → s < length ms → length ms ≡ length ns → at (map f (zip ms ns)) s ≡ f (at ms s, at ns s)
at_zip f ms ns s h e = get_or-map f (zip ms ns) s (false, false) false (omega (arith, length-zip ms ns))
    ∙ ap f (get_or-zip ms ns s (false, false) h (omega arith))

pub length_zip : (f : Bool × Bool → Bool) (ms ns : List Bool) → length ms ≡ length ns → length (map f (zip ms ns)) ≡ length ms
length_zip f ms ns e = omega (arith, length-map (zip ms ns) f, length-zip ms ns)

pub marks_not : (n : ℕ) (ms : List Bool) (P : ℕ → Type 0) → MarksOf n ms P → MarksOf n (map not ms) (λ s. P s → ⊥)
marks_not n ms P m = record {
  count = length-map ms not ∙ m.count;
  exact = λ s h. subst (λ b. IsTrue b ↔ (P s → ⊥)) (sym (get_or-map not ms s false false (omega (arith, m.count)))) (of_not (at ms s) (P s) (m.exact s h));
}

pub marks_and : (n : ℕ) (ms ns : List Bool) (P Q : ℕ → Type 0) → MarksOf n ms P → MarksOf n ns Q → MarksOf n (map (λ p. p.0 && p.1) (zip ms ns)) (λ s. P s × Q s)
marks_and n ms ns P Q m k = record {
  count = length_zip (λ p. p.0 && p.1) ms ns (omega (arith, m.count, k.count)) ∙ m.count;
  exact = λ s h. subst (λ b. IsTrue b ↔ (P s × Q s)) (sym (at_zip (λ p. p.0 && p.1) ms ns s (omega (arith, m.count)) (omega (arith, m.count, k.count))))
      (of_and (at ms s) (at ns s) (P s) (Q s) (m.exact s h) (k.exact s h));
}

pub marks_or : (n : ℕ) (ms ns : List Bool) (P Q : ℕ → Type 0) → MarksOf n ms P → MarksOf n ns Q → MarksOf n (map (λ p. p.0 || p.1) (zip ms ns)) (λ s. P s ⊎ Q s)
marks_or n ms ns P Q m k = record {
  count = length_zip (λ p. p.0 || p.1) ms ns (omega (arith, m.count, k.count)) ∙ m.count;
  exact = λ s h. subst (λ b. IsTrue b ↔ (P s ⊎ Q s)) (sym (at_zip (λ p. p.0 || p.1) ms ns s (omega (arith, m.count)) (omega (arith, m.count, k.count))))
      (of_or (at ms s) (at ns s) (P s) (Q s) (m.exact s h) (k.exact s h));
}

-- the same marks serve for a set with the same states
pub marks_same : (n : ℕ) (ms : List Bool) (P Q : ℕ → Type 0) → MarksOf n ms P → ((s : ℕ) → s < n → P s ↔ Q s) → MarksOf n ms Q
marks_same n ms P Q m same = record { count = m.count; exact = λ s h. (λ e. (same s h).0 ((m.exact s h).0 e), λ q. (m.exact s h).1 ((same s h).1 q)) }

pub marks_implies : (n : ℕ) (ms ns : List Bool) (P Q : ℕ → Type 0) → MarksOf n ms P → MarksOf n ns Q
    → MarksOf n (map (λ p. p.0 || p.1) (zip (map not ms) ns)) (λ s. P s → Q s)
marks_implies n ms ns P Q m k =
    marks_same n _ _ _ (marks_or n (map not ms) ns (λ s. P s → ⊥) Q (marks_not n ms P m) k)
    (λ s h. (λ x. elim x [ inl none ↦ λ p. absurd (none p) | inr q ↦ λ _. q ], λ f. decide s h f (at ms s) refl))
  where
    decide : (s : ℕ) → s < n → (P s → Q s) → (b : Bool) → at ms s ≡ b → (P s → ⊥) ⊎ Q s
    decide s h f true e = inr (f ((m.exact s h).0 e))
    decide s h f false e = inl (λ p. false_is_none (sym e ∙ (m.exact s h).1 p))

-- equal as the program tells it
pub equal_marks : (ms ns : List Bool) → pointwise beq ms ns ≡ true → ms ≡ ns
equal_marks [] [] e = refl
equal_marks [] (n ∷ ns) e = cc
equal_marks (m ∷ ms) [] e = cc
equal_marks (true ∷ ms) (true ∷ ns) e = ap (λ zs. true ∷ zs) (equal_marks ms ns e)
equal_marks (true ∷ ms) (false ∷ ns) e = cc
equal_marks (false ∷ ms) (true ∷ ns) e = cc
equal_marks (false ∷ ms) (false ∷ ns) e = ap (λ zs. false ∷ zs) (equal_marks ms ns e)
