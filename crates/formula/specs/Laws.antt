-- What holds of all texts of formulas.
use Rattle.std.specs.Prelude.{◌≡◌, ℕ, ◌≤◌, List, length}
use Rattle.grammar.specs.declared.limits.TheConstants.{LONGEST_TEXT}
use Rattle.calculus.specs.Tree.{Formula}
use Rattle.calculus.specs.Canon.{canon}
use Rattle.formula.specs.Spells.{Spells, SpellsWithin}
use Rattle.calculus.specs.Admitted.{IsAdmitted}
use Rattle.formula.specs.Fault.{HasFormulaFault}
use Rattle.formula.specs.declared.error.FormulaFault.{FormulaFault}

-- A text spells at most one formula.
abbrev pub OneFormula : Type 0
OneFormula = (text : List ℕ) (f g : Formula) → Spells text f → Spells text g → f ≡ g

-- The canonical text of a formula that some text spells is a text of that formula.
abbrev pub FormulaTextSpells : Type 0
FormulaTextSpells = (text : List ℕ) (f : Formula) → Spells text f → Spells (canon f) f

-- So it is within the limits, where it is not too long: it nests like every text of the formula, and opens no more parentheses.
abbrev pub CanonSpellsWithin : Type 0
CanonSpellsWithin = (text : List ℕ) (f : Formula) → SpellsWithin text f → length (canon f) ≤ LONGEST_TEXT → SpellsWithin (canon f) f

-- A text that spells an admitted formula within the limits has no deciding fault.
abbrev pub NoFormulaFault : Type 0
NoFormulaFault = (text : List ℕ) (f : Formula) (fault : FormulaFault) (place : ℕ) → SpellsWithin text f → IsAdmitted f → HasFormulaFault text fault place → ⊥

-- A text has at most one deciding fault, at one place.
abbrev pub OneFormulaFault : Type 0
OneFormulaFault = (text : List ℕ) (f g : FormulaFault) (p q : ℕ) → HasFormulaFault text f p → HasFormulaFault text g q → (f ≡ g) × (p ≡ q)

-- It can't be that a text has neither: an admitted formula that it spells within the limits, or a deciding fault.
abbrev pub FormulaTextIsDecided : Type 0
FormulaTextIsDecided = (text : List ℕ) → (((f : Formula) × SpellsWithin text f × IsAdmitted f) → ⊥)
    → (((fault : FormulaFault) × (place : ℕ) × HasFormulaFault text fault place) → ⊥) → ⊥
