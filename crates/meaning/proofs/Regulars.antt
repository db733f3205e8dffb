-- Marks of where a composed regular formula leads.
use Rattle.std.proofs.Common.{◌≡◌, ℕ, ◌<◌, ◌⊎◌, ◌↔◌, Bool, true, false, not, List, map, inl, inr, refl, sym, ap, ◌∙◌, arith}
use Rattle.std.proofs.lemmas.List.{get_or-map}
use Rattle.systems.specs.System.{System, IsSystem}
use Rattle.calculus.specs.Tree.{Regular, Then, Either, Star, Plus}
use Rattle.calculus.specs.Meaning.{Leads, MarksOf}
use Rattle.meaning.specs.Into.{Into}
use Rattle.calculus.proofs.Inside.{leads_inside}
use Rattle.calculus.proofs.Telling.{false_is_none}
use Rattle.meaning.proofs.Marked.{at, marks_same, marks_not}

pub into_then : (l : System) → IsSystem l → (r q : Regular) (marks middle found : List Bool) → MarksOf l.states middle (Into l q marks)
    → MarksOf l.states found (Into l r middle) → MarksOf l.states found (Into l (Then r q) marks)
into_then l ok r q marks middle found m f = marks_same l.states found (Into l r middle) (Into l (Then r q) marks) f (λ s h. (there s h, back s h))
  where
    there : (s : ℕ) → s < l.states → Into l r middle s → Into l (Then r q) marks s
    there s h (x, first, k) = let w = (m.exact x (leads_inside l ok r s x h first)).0 k in (w.0, (x, first, w.1), w.2)

    back : (s : ℕ) → s < l.states → Into l (Then r q) marks s → Into l r middle s
    back s h (t, (x, first, second), k) = (x, first, (m.exact x (leads_inside l ok r s x h first)).1 (t, second, k))

pub into_either : (l : System) (r q : Regular) (marks : List Bool) (s : ℕ) → (Into l r marks s ⊎ Into l q marks s) ↔ Into l (Either r q) marks s
into_either l r q marks s = (there, back)
  where
    there : Into l r marks s ⊎ Into l q marks s → Into l (Either r q) marks s
    there (inl w) = (w.0, inl w.1, w.2)
    there (inr w) = (w.0, inr w.1, w.2)

    back : Into l (Either r q) marks s → Into l r marks s ⊎ Into l q marks s
    back (t, inl one, k) = inl (t, one, k)
    back (t, inr one, k) = inr (t, one, k)

-- the other states than those that lead into the others
pub into_box : (l : System) → IsSystem l → (r : Regular) (marks found : List Bool) (P : ℕ → Type 0) → MarksOf l.states marks P
    → MarksOf l.states found (Into l r (map not marks)) → MarksOf l.states (map not found) (λ s. (t : ℕ) → Leads l r s t → P t)
into_box l ok r marks found P m f = marks_same l.states (map not found) _ _ (marks_not l.states found (Into l r (map not marks)) f)
    (λ s h. (there s h, back s h))
  where
    there : (s : ℕ) → s < l.states → (Into l r (map not marks) s → ⊥) → (t : ℕ) → Leads l r s t → P t
    there s h none t go =
        let w = leads_inside l ok r s t h go in
        elim (at marks t) as (λ b. at marks t ≡ b → P t) [
          | true ↦ λ e. (m.exact t w).0 e
          | false ↦ λ e. absurd (none (t, go, get_or-map not marks t false false (omega (arith, w, m.count)) ∙ ap not e))
        ] refl

    back : (s : ℕ) → s < l.states → ((t : ℕ) → Leads l r s t → P t) → Into l r (map not marks) s → ⊥
    back s h all (t, go, k) =
        let w = leads_inside l ok r s t h go in
        false_is_none (ap not (sym ((m.exact t w).1 (all t go))) ∙ (sym (get_or-map not marks t false false (omega (arith, w, m.count))) ∙ k))

pub into_dia : (l : System) → IsSystem l → (r : Regular) (marks found : List Bool) (P : ℕ → Type 0) → MarksOf l.states marks P
    → MarksOf l.states found (Into l r marks) → MarksOf l.states found (λ s. (t : ℕ) × Leads l r s t × P t)
into_dia l ok r marks found P m f = marks_same l.states found _ _ f
    (λ s h. (λ w. (w.0, w.1, (m.exact w.0 (leads_inside l ok r s w.0 h w.1)).0 w.2), λ w. (w.0, w.1, (m.exact w.0 (leads_inside l ok r s w.0 h w.1)).1 w.2)))

-- one step, and then any number
pub into_plus : (l : System) → IsSystem l → (r : Regular) (marks rest found : List Bool) → MarksOf l.states rest (Into l (Star r) marks)
    → MarksOf l.states found (Into l r rest) → MarksOf l.states found (Into l (Plus r) marks)
into_plus l ok r marks rest found m f = marks_same l.states found (Into l r rest) (Into l (Plus r) marks) f (λ s h. (there s h, back s h))
  where
    there : (s : ℕ) → s < l.states → Into l r rest s → Into l (Plus r) marks s
    there s h (x, first, k) = let w = (m.exact x (leads_inside l ok r s x h first)).0 k in (w.0, (x, w.1.0, first, w.1.1), w.2)

    back : (s : ℕ) → s < l.states → Into l (Plus r) marks s → Into l r rest s
    back s h (t, (x, states, first, path), k) = (x, first, (m.exact x (leads_inside l ok r s x h first)).1 (t, (states, path), k))
