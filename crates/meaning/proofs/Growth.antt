-- Marks that grow until nothing changes.
use Rattle.std.proofs.Common.{◌≡◌, ℕ, zero, suc, ◌<◌, ◌≤◌, ◌⊎◌, Bool, true, false, not, ◌||◌, List, [], ◌∷◌, length, map, refl, sym, ap, ◌∙◌, subst, inl, inr}
use Rattle.std.proofs.Common.{arith}
use Rattle.std.specs.Prelude.{zip}
use Rattle.std.specs.List.{list_all}
use Rattle.systems.specs.Path.{IsPath}
use Rattle.systems.specs.System.{System, IsSystem}
use Rattle.calculus.specs.Tree.{Regular, Star, Plus}
use Rattle.calculus.specs.Meaning.{Leads, marked, MarksOf}
use Rattle.calculus.proofs.Inside.{leads_inside}
use Rattle.meaning.proofs.Marked.{at, at_zip}
use Rattle.meaning.specs.Arrivals.{unmarked}
use Rattle.meaning.specs.Into.{Into}
use Rattle.meaning.proofs.Regulars.{into_plus}

-- the marks of either
abbrev pub joined : List Bool → List Bool → List Bool
joined f m = map (λ p. p.0 || p.1) (zip f m)

-- each state of the one is in the other
abbrev pub is_within : List Bool → List Bool → Bool
is_within m f = list_all (λ p. not p.0 || p.1) (zip m f)

no_more : (f m : List Bool) → length f ≡ length m → unmarked (joined f m) ≤ unmarked f
no_more [] m e = omega arith
no_more (b ∷ f) [] e = absurd (omega arith)
no_more (true ∷ f) (d ∷ m) e = no_more f m (omega arith)
no_more (false ∷ f) (true ∷ m) e = omega (arith, no_more f m (omega arith))
no_more (false ∷ f) (false ∷ m) e = omega (arith, no_more f m (omega arith))

pub fewer : (f m : List Bool) → length f ≡ length m → is_within m f ≡ false → unmarked (joined f m) < unmarked f
fewer [] [] e h = cc
fewer [] (d ∷ m) e h = absurd (omega arith)
fewer (b ∷ f) [] e h = absurd (omega arith)
fewer (true ∷ f) (true ∷ m) e h = fewer f m (omega arith) h
fewer (true ∷ f) (false ∷ m) e h = fewer f m (omega arith) h
fewer (false ∷ f) (true ∷ m) e h = omega (arith, no_more f m (omega arith))
fewer (false ∷ f) (false ∷ m) e h = omega (arith, fewer f m (omega arith) h)

pub nothing_new : (f m : List Bool) → length f ≡ length m → is_within m f ≡ true → (s : ℕ) → s < length f → at m s ≡ true → at f s ≡ true
nothing_new [] m e h s lt k = absurd (omega arith)
nothing_new (b ∷ f) [] e h s lt k = absurd (omega arith)
nothing_new (true ∷ f) (d ∷ m) e h zero lt k = refl
nothing_new (true ∷ f) (true ∷ m) e h (suc s) lt k = nothing_new f m (omega arith) h s (omega arith) k
nothing_new (true ∷ f) (false ∷ m) e h (suc s) lt k = nothing_new f m (omega arith) h s (omega arith) k
nothing_new (false ∷ f) (true ∷ m) e h s lt k = cc
nothing_new (false ∷ f) (false ∷ m) e h zero lt k = k
nothing_new (false ∷ f) (false ∷ m) e h (suc s) lt k = nothing_new f m (omega arith) h s (omega arith) k

true_of_or : (b c : Bool) → (b || c) ≡ true → (b ≡ true) ⊎ (c ≡ true)
true_of_or true c e = inl refl
true_of_or false c e = inr e

module _ (l : System) (ok : IsSystem l) (r : Regular) (marks found more : List Bool) (count : length found ≡ l.states)
    (m : MarksOf l.states more (Into l r found)) where
  one_step : (s : ℕ) → s < l.states → ((s : ℕ) → s < l.states → marked found s → Into l (Star r) marks s) → Into l r found s → Into l (Star r) marks s
  one_step s h sound (x, go, k) = let w = sound x (leads_inside l ok r s x h go) k in (w.0, (x ∷ w.1.0, (go, w.1.1)), w.2)

  pub sound_more : ((s : ℕ) → s < l.states → marked found s → Into l (Star r) marks s) → (s : ℕ) → s < l.states → marked (joined found more) s
      → Into l (Star r) marks s
  sound_more sound s h k =
      elim (true_of_or (at found s) (at more s) (sym (at_zip (λ p. p.0 || p.1) found more s (omega (arith, count)) (omega (arith, count, m.count))) ∙ k)) [
        | inl e ↦ sound s h e
        | inr e ↦ one_step s h sound ((m.exact s h).0 e)
      ]

  pub base_more : ((s : ℕ) → s < l.states → marked marks s → marked found s) → (s : ℕ) → s < l.states → marked marks s → marked (joined found more) s
  base_more base s h k = at_zip (λ p. p.0 || p.1) found more s (omega (arith, count)) (omega (arith, count, m.count)) ∙ ap (λ b. b || at more s) (base s h k)

  along : ((s : ℕ) → s < l.states → marked marks s → marked found s) → is_within more found ≡ true → (s : ℕ) (states : List ℕ) (t : ℕ) → s < l.states
      → IsPath (Leads l r) s states t → marked marks t → marked found s
  along base same s [] t h p k = base s h (subst (marked marks) (sym p) k)
  along base same s (x ∷ states) t h p k =
      nothing_new found more (omega (arith, count, m.count)) same s (omega (arith, count))
      ((m.exact s h).1 (x, p.0, along base same x states t (leads_inside l ok r s x h p.0) p.1 k))

  pub reached_all : ((s : ℕ) → s < l.states → marked found s → Into l (Star r) marks s) → ((s : ℕ) → s < l.states → marked marks s → marked found s)
      → is_within more found ≡ true → MarksOf l.states found (Into l (Star r) marks)
  reached_all sound base same = record { count = count; exact = λ s h. (sound s h, λ w. along base same s w.1.0 w.0 h w.1.1 w.2) }

  -- and the last step is that of at least one
  pub reached_some : MarksOf l.states found (Into l (Star r) marks) → MarksOf l.states more (Into l (Plus r) marks)
  reached_some star = into_plus l ok r marks found more star m
