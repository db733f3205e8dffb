-- What a walk over a written formula finds.
use Rattle.std.specs.Prelude.{◌≡◌, ℕ, ◌+◌, ◌<◌, Bool, true, false, not, List, [], ◌∷◌, Option, Some, None, Result, MatchResult, IfSome, slice_get, IsTrue}
use Rattle.calculus.specs.Admitted.{Scope}
use Rattle.formula.specs.declared.error.FormulaFault.{FormulaFault}
use Rattle.formula.specs.declared.error.FormulaFault.TheVariants as fault
use Rattle.formula.specs.declared.error.FormulaError.{FormulaError}
use Rattle.formula.specs.declared.error.FormulaError.TheVariants as refused
use Rattle.grammar.specs.Syntax.{Syntax}
use Rattle.formula.specs.Fault.{HasFormulaFaultAt, operand_faults, variable_faults}
use Rattle.grammar.specs.declared.written.Connective.{Connective}
use Rattle.grammar.specs.declared.written.Connective.TheVariants as connective
use Rattle.formula.specs.declared.scope.Binders.{Binders}
use Rattle.formula.specs.declared.scope.Binders.TheVariants as binders
use Rattle.formula.specs.declared.scope.Misplaced.{Misplaced}

-- the place after so many tokens, where these are no faults; or the first fault, which stands before it
abbrev pub IsChecked : List ℕ → ℕ → ℕ → Result ℕ ℕ → Type 0
IsChecked faults at count result =
    MatchResult result (λ next. (next ≡ at + count) × (faults ≡ [])) (λ place. (slice_get faults 0 ≡ Some place) × (place < at + count))

abbrev pub is_variable_fault : FormulaFault → Bool
is_variable_fault fault.Unbound = true
is_variable_fault fault.OddNegations = true
is_variable_fault _ = false

-- the same of variables
abbrev pub AreChecked : List (ℕ × FormulaFault) → ℕ → ℕ → Result ℕ Misplaced → Type 0
AreChecked faults at count result =
    MatchResult result (λ next. (next ≡ at + count) × (faults ≡ []))
    (λ found. (slice_get faults 0 ≡ Some (found.place, found.fault)) × (found.place < at + count) × IsTrue (is_variable_fault found.fault))

-- the parity of the negations around the left side of a sign
abbrev pub left_parity : Connective → Bool → Bool
left_parity connective.Implies parity = not parity
left_parity connective.And parity = parity
left_parity connective.Or parity = parity

-- whether two flags are the same
abbrev pub same_truth : Bool → Bool → Bool
same_truth true b = b
same_truth false true = false
same_truth false false = true

-- the scope of binders, seen from below negations of this parity
abbrev pub scope_of : Binders → Bool → Scope
scope_of binders.Empty parity = []
scope_of (binders.Binder' name under p outer) parity = (name.now, same_truth under parity) ∷ scope_of outer parity

-- the refusal of the first operand that is no action formula, else of the first variable that may not stand where it does
abbrev pub IsTreeRefusal : Syntax → List ℕ → FormulaError → Type 0
IsTreeRefusal s places (refused.Fault fault.NotAnAction offset) =
    (first : ℕ) × (others : List ℕ) × (operand_faults 0 s ≡ first ∷ others) × (slice_get places first ≡ Some offset)
IsTreeRefusal s places (refused.Fault other offset) =
    (first : ℕ) × (others : List (ℕ × FormulaFault)) × (operand_faults 0 s ≡ []) × (variable_faults [] 0 s ≡ (first, other) ∷ others)
    × (slice_get places first ≡ Some offset)
IsTreeRefusal s places refused.Memory = ⊥

-- the fault that an error tells, with its place: none where memory runs out
abbrev pub formula_fault_of : FormulaError → Option (FormulaFault × ℕ)
formula_fault_of (refused.Fault fault offset) = Some (fault, offset)
formula_fault_of refused.Memory = None

-- the fault that is told, if one is, decides
abbrev pub IsTold : List ℕ → FormulaError → Type 0
IsTold text e = IfSome (formula_fault_of e) (HasFormulaFaultAt text)
