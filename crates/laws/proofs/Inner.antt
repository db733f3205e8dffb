-- Admissible priorities, from the side of the outer binder and of the inner one.
use Rattle.std.proofs.Common.{◌≡◌, ℕ, ◌+◌, ◌≤◌, ◌⊎◌, sym, subst, inl, inr}
use Rattle.calculus.specs.NormalTree.{Norm, Constant, Junction, Modality, Fixpoint, Variable, size}
use Rattle.laws.specs.Admissible.{IsFree, IsEach, IsFitting, IsAboveInner}
use Rattle.laws.specs.Laws.{AdmissibleFromInside}
use Rattle.laws.proofs.Trees.{Binds, to_free, from_free, each_map, each_each}
use Rattle.laws.proofs.Spans.{fits_outer}

module _ (prio : ℕ → ℕ) where
  -- each part in which the variable of b is free has at most b's priority
  abbrev IsUnder : ℕ → ℕ → Norm → Type 0
  IsUnder b c g = IsFree b c g → prio c ≤ prio b

  -- what fits each part is under each binder around it
  under : (b at : ℕ) (f : Norm) → IsEach (IsFitting prio) at f → IsEach (IsUnder b) at f
  under b at f fits = each_map (IsFitting prio) (IsUnder b) at f (λ c g h. fits_outer prio c g h b) fits

  part_above : (at : ℕ) (f : Norm) → IsEach (IsFitting prio) at f → IsAboveInner prio at f
  part_above at (Constant flag) fits = fits
  part_above at (Junction flag f g) fits = fits.0
  part_above at (Modality flag a f) fits = fits.0
  part_above at (Fixpoint flag f) fits = (fits.0.0, under at (at + 1) f fits.1)
  part_above at (Variable b) fits = fits

  above : (at : ℕ) (f : Norm) → IsEach (IsFitting prio) at f → IsEach (IsAboveInner prio) at f
  above at f fits = each_map (λ k g. IsEach (IsFitting prio) k g) (IsAboveInner prio) at f part_above (each_each (IsFitting prio) at f fits)

  -- P the binders around the tree: what is above inside fits
  fitting : (P : ℕ → Type 0) (at : ℕ) (f : Norm) → IsEach (IsAboveInner prio) at f → Binds P at f → ((b : ℕ) → P b → IsEach (IsUnder b) at f)
      → IsEach (IsFitting prio) at f
  fitting P at (Constant flag) h binds outer = h
  fitting P at (Junction flag f g) h binds outer =
      (h.0, fitting P (at + 1) f h.1 binds.0 (λ b p. (outer b p).1), fitting P (at + 1 + size f) g h.2 binds.1 (λ b p. (outer b p).2))
  fitting P at (Modality flag a f) h binds outer = (h.0, fitting P (at + 1) f h.1 binds (λ b p. (outer b p).1))
  fitting P at (Fixpoint flag f) h binds outer = (
    (h.0.0, λ b free. (outer b (to_free P at (Fixpoint flag f) binds b free)).0 free),
    fitting (λ b. (b ≡ at) ⊎ P b) (at + 1) f h.1 binds (λ b p. elim p
        [ inl e ↦ subst (λ x. IsEach (IsUnder x) (at + 1) f) (sym e) h.0.1 | inr q ↦ (outer b q).1 ]),
  )
  fitting P at (Variable b) h binds outer = h

pub admissible_from_inside : AdmissibleFromInside
admissible_from_inside f prio closed = (above prio 0 f, λ h. fitting prio (λ b. ⊥) 0 f h (from_free (λ b. ⊥) 0 f closed) (λ b p. absurd p))
