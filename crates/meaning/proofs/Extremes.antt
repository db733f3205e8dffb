-- Marks of a binder's meaning are the least or the greatest fixpoint.
use Rattle.std.proofs.Common.{ℕ, ◌<◌, ◌↔◌, Bool, false, List, [], true≢false, sym}
use Rattle.std.specs.Prelude.{IsTrue}
use Rattle.systems.specs.System.{System, IsSystem}
use Rattle.calculus.specs.Tree.{Formula, Mu, Nu}
use Rattle.calculus.specs.Admitted.{IsAdmitted}
use Rattle.calculus.specs.Meaning.{MarksOf, marked, no_sets, Satisfies}
use Rattle.calculus.specs.FixpointLaws.{body}
use Rattle.calculus.proofs.Same.{with_same, mean_same}
use Rattle.calculus.proofs.Decided.{Told}
use Rattle.calculus.proofs.Binders.{mu_fixed, nu_fixed, mu_least, nu_greatest}
use Rattle.meaning.specs.Extreme.{IsLeast, IsGreatest}

module _ (l : System) (ok : IsSystem l) (name : List ℕ) (f : Formula) (marks : List Bool) where
  nothing : Told l ok no_sets
  nothing other = (λ s. false, λ s lt. (λ e. true≢false (sym e), λ none. absurd none))

  -- a set that the map leaves, as marks
  left : (P : ℕ → Type 0) → MarksOf l.states marks P → ((s : ℕ) → s < l.states → body l f no_sets name P s ↔ P s) → (s : ℕ) → s < l.states
      → body l f no_sets name (marked marks) s ↔ marked marks s
  left P m fixed s lt =
      let turn = mean_same l ok f _ _ (with_same l.states no_sets no_sets name (marked marks) P (λ other t h. (λ x. x, λ x. x)) m.exact) s lt in
      (λ h. (m.exact s lt).1 ((fixed s lt).0 (turn.0 h)), λ h. turn.1 ((fixed s lt).1 ((m.exact s lt).0 h)))

  pub is_least : IsAdmitted (Mu name f) → MarksOf l.states marks (Satisfies l (Mu name f)) → IsLeast l name f marks
  is_least admitted m = record {
    fixed = left (Satisfies l (Mu name f)) m (mu_fixed l ok [] name f admitted no_sets nothing);
    least = λ U closed s lt h. mu_least l ok [] name f admitted no_sets (λ t. IsTrue (U t)) closed s lt ((m.exact s lt).0 h);
  }

  pub is_greatest : IsAdmitted (Nu name f) → MarksOf l.states marks (Satisfies l (Nu name f)) → IsGreatest l name f marks
  is_greatest admitted m = record {
    fixed = left (Satisfies l (Nu name f)) m (nu_fixed l ok [] name f admitted no_sets nothing);
    greatest = λ U kept s lt h. (m.exact s lt).1 (nu_greatest l ok [] name f admitted no_sets (λ t. IsTrue (U t)) kept s lt h);
  }
