-- What is told of why the initial state satisfies a formula, or doesn't, where the words of the formula may be asked about.
use Rattle.std.specs.Prelude.{◌≡◌, ◌⊎◌, ℕ, Bool, List, [], ◌∷◌, Option, Some, Result, MatchResult, IsTrue}
use Rattle.text.specs.Taken.{Taken, Adds}
use Rattle.calculus.specs.declared.priorities.Priorities.{Priorities}
use Rattle.workers.specs.declared.team.BoardKind.{BoardKind}
use Rattle.requests.specs.declared.error.MuError.{MuError}
use Rattle.requests.specs.Strict.{MayComeFirst, IsWordRefusal, KnowsWords}
use Rattle.requests.specs.Writers.{WitnessText, lent_for}
use Rattle.engines.specs.Reasons.{HasNoReasons, HasGivenReasons}

-- A strict one is refused for a word, or otherwise while the texts are read, or where it has none that could be refused.
abbrev pub HasNoReasonsBy : (strict : Bool) → Priorities → Option BoardKind → (limit : ℕ) → (first second : List ℕ) → (old new : Taken)
    → MuError → Type 0
HasNoReasonsBy strict rule board limit first second old new e =
    (HasNoReasons rule board limit first second old new e × (IsTrue strict → MayComeFirst e ⊎ KnowsWords first second))
    ⊎ IsWordRefusal strict first second (lent_for WitnessText old new ∷ []) e

-- A strict one tells where each word of the formula is on a transition.
abbrev pub TellsReasonsBy : (strict : Bool) → Priorities → Option BoardKind → (limit : ℕ) → (first second : List ℕ) → (old new : Taken)
    → Result Bool MuError → Type 0
TellsReasonsBy strict rule board limit first second old new result =
    MatchResult result (λ answer. HasGivenReasons rule board limit first second answer (Adds old new) × (IsTrue strict → KnowsWords first second))
    (HasNoReasonsBy strict rule board limit first second old new)

-- The theorem: of what the readers had left, where they tell it, and of what the writer held before and after.
abbrev pub TellsWhyBy : (strict : Bool) → Priorities → Option BoardKind → (limit : ℕ) → (aut formula : Option (List ℕ)) → (old new : Taken)
    → Result Bool MuError → Type 0
TellsWhyBy strict rule board limit aut formula old new result =
    (first second : List ℕ) → aut ≡ Some first → formula ≡ Some second → TellsReasonsBy strict rule board limit first second old new result
