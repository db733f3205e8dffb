-- Whether each word of a formula's text is on a transition, where that is asked about.
use Rattle.std.specs.Prelude.{ℕ, Bool, List, Some, None, IsTrue}
use Rattle.systems.specs.System.{System}
use Rattle.formula.specs.Absent.{IsFirstAbsent}

-- Where that is asked for, each word of the text is on a transition of the system.
abbrev pub AreKnown : (strict : Bool) → System → (text : List ℕ) → Type 0
AreKnown strict l text = IsTrue strict → IsFirstAbsent l text None

-- It is asked for, and the first word of the text that is on none stands at this place.
abbrev pub IsAbsentAt : (strict : Bool) → System → (text : List ℕ) → (place : ℕ) → Type 0
IsAbsentAt strict l text place = IsTrue strict × IsFirstAbsent l text (Some place)
