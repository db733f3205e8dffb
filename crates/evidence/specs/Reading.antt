-- What is known while the lines of evidence are read.
use Rattle.std.specs.Prelude.{◌≡◌, ℕ, ◌+◌, ◌<◌, ◌≤◌, ◌⊎◌, List, ◌∷◌, ◌++◌, length, count_by, Result, MatchResult, MatchOption, Option, Some, None, slice_index_or, IfSome}
use Rattle.std.specs.Option.{is_some}
use Rattle.text.specs.Lines.{IfKnown}
use Rattle.text.specs.Stream.{first_piece, after_line}
use Rattle.text.specs.Text.{pieces_of}
use Rattle.game.specs.declared.player.Player.{Player}
use Rattle.evidence.specs.Canon.{header}
use Rattle.evidence.specs.Evidence.{Entry, entry_at}
use Rattle.evidence.specs.Fault.{IsFaultyRest, IsHeadless}
use Rattle.evidence.specs.Spelling.{AreGoodRows, AreLines, AreEntriesOf, IsRowInside, IsShaped, EntryRow}
use Rattle.evidence.specs.View.{NamedEvidence, rank_width, with_entry}
use Rattle.evidence.specs.declared.error.EvidenceFault.{EvidenceFault}
use Rattle.evidence.specs.declared.error.EvidenceFault.TheVariants.{BadHeader, BadLine, BadVertex}

-- the first line is the player's header, and the others are left
abbrev pub BeginsWith : Player → List ℕ → List ℕ → Type 0
BeginsWith player text left = pieces_of text ≡ header player ∷ pieces_of left

-- no header stands first
abbrev pub HasNoHeader : List ℕ → EvidenceFault → ℕ → Type 0
HasNoHeader text fault place = (fault ≡ BadHeader) × IsHeadless (pieces_of text) × (place ≡ 1)

-- The vertex has no entry yet, and the move is inside; or not so.
pub record HasPlaceFor (entries : List (Option Entry)) (v : ℕ) (next : Option ℕ) : Type 0 where
  pub vertex : v < length entries
  pub move : (t : ℕ) → next ≡ Some t → t < length entries
  pub free : slice_index_or entries v None ≡ None

abbrev pub IsNoPlace : List (Option Entry) → ℕ → Option ℕ → Type 0
IsNoPlace entries v next = (length entries ≤ v) ⊎ ((t : ℕ) × (next ≡ Some t) × (length entries ≤ t)) ⊎ ((x : Entry) × (slice_index_or entries v None ≡ Some x))

-- the line gave its vertex an entry that it didn't have
pub record IsAdded (line : List ℕ) (old new : NamedEvidence) : Type 0 where
  pub row : EntryRow
  pub shaped : IsShaped (rank_width old) line row
  pub inside : IsRowInside (length old.evidence.entries) row
  pub free : entry_at old.evidence row.vertex ≡ None
  pub added : new ≡ with_entry old row.vertex row.entry

-- what is wrong with a line where this was read
abbrev pub IsWrongLine : NamedEvidence → List ℕ → EvidenceFault → Type 0
IsWrongLine old line BadLine = (row : EntryRow) → IsShaped (rank_width old) line row → ⊥
IsWrongLine old line BadVertex =
    (row : EntryRow) × IsShaped (rank_width old) line row
    × IsNoPlace old.evidence.entries row.vertex row.entry.move
IsWrongLine old line BadHeader = ⊥

-- this is the first line, and it is taken with its end
abbrev pub TakesFirst : List ℕ → List ℕ → List ℕ → Type 0
TakesFirst line text left = (first_piece text ≡ line) × (left ≡ after_line text)

-- the line that was next is taken, and gave its vertex an entry
abbrev pub AddsNext : Option (List ℕ) → Option (List ℕ) → NamedEvidence → NamedEvidence → Type 0
AddsNext old new before after = (line : List ℕ) × IsAdded line before after × IfKnown old new (TakesFirst line)

-- the line that was next has this fault
abbrev pub RefusesNext : Option (List ℕ) → Option (List ℕ) → NamedEvidence → EvidenceFault → Type 0
RefusesNext old new before fault = IfKnown old new (λ text left. IsWrongLine before (first_piece text) fault × (left ≡ after_line text))

-- it was read
abbrev pub ReadsNext : {T : Type 0} → Option (List ℕ) → Option (List ℕ) → NamedEvidence → NamedEvidence → Result T EvidenceFault → Type 0
ReadsNext old new before after added = MatchResult added (λ _. AddsNext old new before after) (RefusesNext old new before)

-- it was read, if it stood whole in the block at hand; else nothing is done
abbrev pub ReadsAtHand : {T : Type 0} → Option (List ℕ) → Option (List ℕ) → NamedEvidence → NamedEvidence → Option (Result T EvidenceFault) → Type 0
ReadsAtHand old new before after found =
    MatchOption found (IfKnown old new (λ text left. left ≡ text) × (after ≡ before)) (ReadsNext old new before after)

-- the first lines are these, and the others are left
abbrev pub IsCutOff : List (List ℕ) → List ℕ → List ℕ → Type 0
IsCutOff done text left = pieces_of text ≡ done ++ pieces_of left

-- the lines that were read so far, so many and all of them good, and what they made of evidence that was empty
pub record EntriesSoFar (first : NamedEvidence) (good : ℕ) (old now : Option (List ℕ)) (read : NamedEvidence) : Type 0 where
  pub done : List (List ℕ)
  pub rows : List EntryRow
  pub fine : AreGoodRows (length first.evidence.entries) (rank_width first) done rows
  pub count : length done ≡ good
  pub same : AreEntriesOf rows read.evidence.entries
  pub filled : count_by is_some read.evidence.entries ≡ good
  pub long : length read.evidence.entries ≡ length first.evidence.entries
  pub game : read.game ≡ first.game
  pub player : read.evidence.player ≡ first.evidence.player
  pub cut : IfKnown old now (IsCutOff done)

-- the fault of the lines below a header, and its line in the whole text
abbrev pub HasEvidenceRestFault : (vertices width : ℕ) → List ℕ → EvidenceFault → ℕ → Type 0
HasEvidenceRestFault vertices width text fault place = (good : ℕ) × IsFaultyRest vertices width (pieces_of text) fault good × (place ≡ good + 2)

-- These lines say the entries, and they are the ones that were left, where that is known.
pub record AreEntriesRead (vertices width : ℕ) (old : Option (List ℕ)) (entries : List (Option Entry)) : Type 0 where
  pub rest : List (List ℕ)
  pub lines : AreLines vertices width rest entries
  pub cut : IfSome old (λ text. pieces_of text ≡ rest)
