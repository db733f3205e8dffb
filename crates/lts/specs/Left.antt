-- Why a call refused what a reader had left, and what stands there.
use Rattle.std.specs.Prelude.{◌≡◌, ℕ, ◌+◌, ◌<◌, ◌≤◌, ◌⊎◌, List, [], ◌∷◌, ◌++◌, length, Option, Some, None, IfSome, IsTrue, IsFalse}
use Rattle.std.specs.List.{AllZip, AllByRecursion}
use Rattle.text.specs.Text.{lines}
use Rattle.text.specs.Lines.{IfKnown}
use Rattle.systems.specs.declared.limits.TheConstants.{MOST_TRANSITIONS, MOST_STATES}
use Rattle.lts.specs.declared.error.AutFault.{AutFault}
use Rattle.lts.specs.declared.error.AutFault.TheVariants.{OverLimit, NoSuchState, BadStates, BadLabel}
use Rattle.lts.specs.declared.error.AutError.{AutError}
use Rattle.lts.specs.declared.error.AutError.TheVariants.{Fault, Read, Memory}
use Rattle.lts.specs.declared.scan.Announced.{Announced}
use Rattle.systems.specs.declared.system.Transition.{Transition}
use Rattle.systems.specs.Label.{is_label}
use Rattle.systems.specs.System.{Arrow, IsArrow}
use Rattle.lts.specs.Gathered.{Gathers}
use Rattle.lts.specs.Aut.{IsAutHeader, IsTransition, AutBodyFault}

-- the fault that an error tells, and its line: none for a failed read, or where memory runs out
abbrev pub aut_fault_of : AutError → Option (AutFault × ℕ)
aut_fault_of (Fault fault line) = Some (fault, line)
aut_fault_of Read = None
aut_fault_of Memory = None

-- P holds of what was left, where that is known, and of the fault and its line, if it was one
abbrev pub RefusesAut : Option (List ℕ) → (List ℕ → AutFault → ℕ → Type 0) → AutError → Type 0
RefusesAut old P e = IfSome old (λ text. IfSome (aut_fault_of e) (λ told. P text told.0 told.1))

-- what a right header announces is within the limits
pub record IsWithinLimits (h : Announced) : Type 0 where
  pub transitions : h.transitions ≤ MOST_TRANSITIONS
  pub states : h.states ≤ MOST_STATES
  pub initial : h.initial < h.states

-- the first line is this header, and the others are left
pub record BeginsSystem (h : Announced) (text left : List ℕ) : Type 0 where
  pub first : List ℕ
  pub cut : lines text ≡ first ∷ lines left
  pub header : IsAutHeader first h.initial h.transitions h.states

-- the lines are these transitions, as many as were announced
pub record AreTransitions (h : Announced) (arrows : List Arrow) (text left : List ℕ) : Type 0 where
  pub each : AllZip IsTransition (lines text) arrows
  pub count : length (lines text) ≡ h.transitions

-- the fault of the lines below a header, and its line in the whole text
abbrev pub HasAutRestFault : Announced → List ℕ → AutFault → ℕ → Type 0
HasAutRestFault h text fault place = (good : ℕ) × AutBodyFault h.transitions h.states (lines text) fault good × (place ≡ good + 2)

-- what is wrong with what a header announces
abbrev pub IsAnnouncedFault : Announced → AutFault → Type 0
IsAnnouncedFault h OverLimit = (MOST_TRANSITIONS < h.transitions) ⊎ (MOST_STATES < h.states)
IsAnnouncedFault h BadStates = (h.transitions ≤ MOST_TRANSITIONS) × (h.states ≤ MOST_STATES) × (h.states ≤ h.initial)
IsAnnouncedFault h _ = ⊥

-- what is wrong with a transition of a system with n states
abbrev pub IsRowFault : ℕ → Arrow → AutFault → Type 0
IsRowFault n a BadLabel = IsFalse (is_label a.label)
IsRowFault n a NoSuchState = IsTrue (is_label a.label) × ((n ≤ a.source) ⊎ (n ≤ a.target))
IsRowFault n a _ = ⊥

-- the first lines are these transitions, and the others are left
abbrev pub BeginsWithRows : List Arrow → List ℕ → List ℕ → Type 0
BeginsWithRows arrows text left = (done : List (List ℕ)) × (lines text ≡ done ++ lines left) × AllZip IsTransition done arrows

-- the transitions that were read so far, so many and all of them good, and how they are stored
pub record ArrowsSoFar (n good : ℕ) (old now : Option (List ℕ)) (labels : List (List ℕ)) (transitions : List Transition) : Type 0 where
  pub arrows : List Arrow
  pub within : AllByRecursion (IsArrow n) arrows
  pub gathered : Gathers labels transitions arrows
  pub count : length arrows ≡ good
  pub cut : IfKnown old now (BeginsWithRows arrows)

-- no line was left
abbrev pub HasNoLine : List ℕ → List ℕ → Type 0
HasNoLine text left = lines text ≡ []
