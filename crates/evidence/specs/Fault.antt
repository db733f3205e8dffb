-- The fault of a text that spells no evidence for a game.
use Rattle.std.specs.Prelude.{◌≡◌, ℕ, ◌+◌, ◌≤◌, ◌⊎◌, List, ◌∷◌, ◌++◌, length, Contains, Option, Some, None, IfSome}
use Rattle.text.specs.Text.{pieces_of}
use Rattle.game.specs.declared.player.Player.{Player}
use Rattle.game.specs.Game.{Game}
use Rattle.evidence.specs.Canon.{header}
use Rattle.evidence.specs.Evidence.{counted}
use Rattle.evidence.specs.Spelling.{AreGoodRows, IsShaped, EntryRow}
use Rattle.evidence.specs.declared.error.EvidenceFault.{EvidenceFault}
use Rattle.evidence.specs.declared.error.EvidenceFault.TheVariants.{BadHeader, BadLine, BadVertex}
use Rattle.evidence.specs.declared.error.EvidenceError.{EvidenceError}
use Rattle.evidence.specs.declared.error.EvidenceError.TheVariants.{Fault, Memory, Read}

-- The first line is absent, or it is neither player's.
abbrev pub IsHeadless : List (List ℕ) → Type 0
IsHeadless all = (player : Player) (rest : List (List ℕ)) → all ≡ header player ∷ rest → ⊥

-- The vertex is none of so many, or the move is none, or the vertex stands before.
abbrev pub IsMisplaced : ℕ → List EntryRow → EntryRow → Type 0
IsMisplaced vertices before row =
    (vertices ≤ row.vertex) ⊎ ((t : ℕ) × (row.entry.move ≡ Some t) × (vertices ≤ t)) ⊎ ((other : EntryRow) × Contains before other × (other.vertex ≡ row.vertex))

-- what is wrong with a line, behind lines that say these
abbrev pub EvidenceLineFault : (vertices width : ℕ) → List EntryRow → List ℕ → EvidenceFault → Type 0
EvidenceLineFault vertices width before line BadLine = (row : EntryRow) → IsShaped width line row → ⊥
EvidenceLineFault vertices width before line BadVertex = (row : EntryRow) × IsShaped width line row × IsMisplaced vertices before row
EvidenceLineFault vertices width before line BadHeader = ⊥

-- The first faulty line of those below a header: its fault, and how many good ones stand before it.
pub record IsFaultyRest (vertices width : ℕ) (rest : List (List ℕ)) (fault : EvidenceFault) (good : ℕ) : Type 0 where
  pub front : List (List ℕ)
  pub line : List ℕ
  pub back : List (List ℕ)
  pub before : List EntryRow
  pub cut : rest ≡ front ++ line ∷ back
  pub fine : AreGoodRows vertices width front before
  pub count : length front ≡ good
  pub wrong : EvidenceLineFault vertices width before line fault

-- the fault that decides, and its line, from 1
abbrev pub HasEvidenceFault : Game → List ℕ → EvidenceFault → ℕ → Type 0
HasEvidenceFault g text BadHeader place = IsHeadless (pieces_of text) × (place ≡ 1)
HasEvidenceFault g text fault place =
    (player : Player) × (rest : List (List ℕ)) × (good : ℕ) × (pieces_of text ≡ header player ∷ rest)
    × IsFaultyRest (length g.vertices) (length (counted player g)) rest fault good × (place ≡ good + 2)

-- the same of the fault with its line
abbrev pub HasEvidenceFaultAt : Game → List ℕ → EvidenceFault × ℕ → Type 0
HasEvidenceFaultAt g text told = HasEvidenceFault g text told.0 told.1

-- the fault that an error tells, and its line: none for a failed read, or where memory runs out
abbrev pub evidence_fault_of : EvidenceError → Option (EvidenceFault × ℕ)
evidence_fault_of (Fault fault line) = Some (fault, line)
evidence_fault_of Read = None
evidence_fault_of Memory = None

-- P holds of what was left, where that is known, and of the fault and its line, if it was one.
abbrev pub RefusesEvidence : Option (List ℕ) → (List ℕ → EvidenceFault → ℕ → Type 0) → EvidenceError → Type 0
RefusesEvidence old P e = IfSome old (λ text. IfSome (evidence_fault_of e) (λ told. P text told.0 told.1))
