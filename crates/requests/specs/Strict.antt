-- What a check answers that may be strict about the words of its formula: its names and its quoted labels.
use Rattle.std.specs.Prelude.{◌≡◌, ◌⊎◌, ℕ, Bool, List, Option, Some, None, Result, MatchResult, IsTrue}
use Rattle.systems.specs.System.{System}
use Rattle.calculus.specs.Tree.{Formula}
use Rattle.lts.specs.Aut.{IsAut}
use Rattle.formula.specs.Absent.{IsFirstAbsent}
use Rattle.requests.specs.declared.error.MuError.{MuError}
use Rattle.requests.specs.declared.error.MuError.TheVariants as error
use Rattle.requests.specs.Check.{Way, HasReported, RefusesCheck}
use Rattle.requests.specs.Texts.{IsFormulaOf, IsReadingRefusal}
use Rattle.requests.specs.Writers.{Lent, AreKept}

-- Of the formula's words the first that is on no transition of the system stands at this place, if there is one.
pub record AreWords (first second : List ℕ) (place : Option ℕ) : Type 0 where
  pub l : System
  pub system : IsAut first l
  pub absent : IsFirstAbsent l second place

-- Each word of the formula is on a transition.
abbrev pub KnowsWords : (first second : List ℕ) → Type 0
KnowsWords first second = AreWords first second None

-- a refusal that may come before both texts are read, or where memory runs out
abbrev pub MayComeFirst : MuError → Type 0
MayComeFirst (error.System e) = Unit {0}
MayComeFirst e = IsReadingRefusal e

-- A word is refused, where that is asked for: the first that is on no transition, of a text that spells a formula. Nothing was written.
pub record IsWordRefusal (strict : Bool) (first second : List ℕ) (writers : List Lent) (e : MuError) : Type 0 where
  pub place : ℕ
  pub f : Formula
  pub asked : IsTrue strict
  pub spelled : IsFormulaOf second f
  pub absent : AreWords first second (Some place)
  pub is : e ≡ error.NoLabel place
  pub kept : AreKept writers

-- A strict check is refused for a word, or otherwise while the texts are read, or where it has none that could be refused.
abbrev pub HasRefusedBy : (strict : Bool) → Way → (first second : List ℕ) → List Lent → MuError → Type 0
HasRefusedBy strict way first second writers e =
    (RefusesCheck way first second writers e × (IsTrue strict → MayComeFirst e ⊎ KnowsWords first second)) ⊎ IsWordRefusal strict first second writers e

-- A strict check answers where each word of the formula is on a transition.
abbrev pub AnswersBy : (strict : Bool) → Way → (first second : List ℕ) → List Lent → Result Bool MuError → Type 0
AnswersBy strict way first second writers result =
    MatchResult result (λ answer. HasReported way first second writers answer × (IsTrue strict → KnowsWords first second))
    (HasRefusedBy strict way first second writers)

-- The theorem of a check that may be strict, as that of one which isn't.
abbrev pub ChecksBy : (strict : Bool) → Way → (aut formula : Option (List ℕ)) → List Lent → Result Bool MuError → Type 0
ChecksBy strict way aut formula writers result =
    (first second : List ℕ) → aut ≡ Some first → formula ≡ Some second → AnswersBy strict way first second writers result

-- What a look at the words of a formula's text refuses.
abbrev pub IsLookRefusal : System → List ℕ → MuError → Type 0
IsLookRefusal l text (error.NoLabel place) = IsFirstAbsent l text (Some place)
IsLookRefusal l text error.Memory = Unit {0}
IsLookRefusal l text _ = ⊥
