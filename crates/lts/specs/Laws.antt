-- What holds of all texts of systems.
use Rattle.std.specs.Prelude.{◌≡◌, ℕ, ◌≤◌, ◌⊎◌, List, length}
use Rattle.systems.specs.declared.limits.TheConstants.{MOST_TRANSITIONS}
use Rattle.systems.specs.System.{System, IsSystem}
use Rattle.lts.specs.declared.error.AutFault.{AutFault}
use Rattle.lts.specs.Aut.{IsAut, HasAutFault}
use Rattle.lts.specs.Canon.{aut_text}

-- A text spells at most one system.
abbrev pub OneSystem : Type 0
OneSystem = (text : List ℕ) (l k : System) → IsAut text l → IsAut text k → l ≡ k

-- A text that spells a system has no deciding fault.
abbrev pub NoAutFault : Type 0
NoAutFault = (text : List ℕ) (l : System) (fault : AutFault) (line : ℕ) → IsAut text l → HasAutFault text fault line → ⊥

-- A text has at most one deciding fault, at one line.
abbrev pub OneAutFault : Type 0
OneAutFault = (text : List ℕ) (f g : AutFault) (i j : ℕ) → HasAutFault text f i → HasAutFault text g j → (f ≡ g) × (i ≡ j)

-- A text spells a system, or a fault decides.
abbrev pub AutTextIsDecided : Type 0
AutTextIsDecided = (text : List ℕ) → ((l : System) × IsAut text l) ⊎ ((fault : AutFault) × (line : ℕ) × HasAutFault text fault line)

-- The canonical text of a system with no more transitions than a text may have spells the system.
abbrev pub AutTextSpells : Type 0
AutTextSpells = (l : System) → IsSystem l → length l.arrows ≤ MOST_TRANSITIONS → IsAut (aut_text l) l
