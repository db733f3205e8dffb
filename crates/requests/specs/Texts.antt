-- What the texts of a command spell.
use Rattle.std.specs.Prelude.{◌≡◌, ℕ, List}
use Rattle.systems.specs.System.{System}
use Rattle.lts.specs.Aut.{IsAut}
use Rattle.calculus.specs.Tree.{Formula}
use Rattle.formula.specs.Spells.{Spells, SpellsWithin}
use Rattle.calculus.specs.Admitted.{IsAdmitted}
use Rattle.formula.specs.Checked.{IsTold}
use Rattle.requests.specs.declared.error.MuError.{MuError}
use Rattle.requests.specs.declared.error.MuError.TheVariants as error

-- the text spells this system alone
pub record IsSystemOf (text : List ℕ) (l : System) : Type 0 where
  pub spelled : IsAut text l
  pub only : (other : System) → IsAut text other → other ≡ l

-- The text spells this formula alone, within the limits, and it is admitted.
pub record IsFormulaOf (text : List ℕ) (f : Formula) : Type 0 where
  pub spelled : SpellsWithin text f
  pub only : (other : Formula) → Spells text other → other ≡ f
  pub admitted : IsAdmitted f

-- a failed read, or out of memory
abbrev pub IsReadFault : MuError → Type 0
IsReadFault error.Read = Unit {0}
IsReadFault error.Memory = Unit {0}
IsReadFault _ = ⊥

-- what a refusal of the formula's text says
abbrev pub IsReadRefusal : List ℕ → MuError → Type 0
IsReadRefusal text (error.Formula e) = IsTold text e
IsReadRefusal text e = IsReadFault e

-- the refusals of a read of a formula
abbrev pub IsReadingRefusal : MuError → Type 0
IsReadingRefusal (error.Formula e) = Unit {0}
IsReadingRefusal e = IsReadFault e
