-- The evidence that a text spells for a game.
use Rattle.std.specs.Prelude.{◌≡◌, ◌≢◌, ◌↔◌, ℕ, ◌<◌, ◌≤◌, List, ◌∷◌, ◌++◌, length, Contains, AllPairs, Option, Some, None, codes, slice_index_or}
use Rattle.std.specs.List.{AllByRecursion, AllZip}
use Rattle.text.specs.Text.{IsNumeral, pieces_of}
use Rattle.game.specs.Game.{Game}
use Rattle.measures.specs.MeasureText.{AreCounts}
use Rattle.evidence.specs.Canon.{header}
use Rattle.evidence.specs.Evidence.{Entry, Evidence, counted}
use Rattle.evidence.specs.declared.limits.TheConstants.{GREATEST_COUNT}

-- what a line says
pub record EntryRow : Type 0 where
  pub vertex : ℕ
  pub entry : Entry

abbrev pub IsMoveText : List ℕ → Option ℕ → Type 0
IsMoveText bytes None = bytes ≡ codes "-"
IsMoveText bytes (Some t) = IsNumeral bytes t

-- `vertex move rank`, with one space between two and no other blanks
pub record IsEntryLine (line : List ℕ) (row : EntryRow) : Type 0 where
  pub v : List ℕ
  pub m : List ℕ
  pub r : List ℕ
  pub vertex : IsNumeral v row.vertex
  pub move : IsMoveText m row.entry.move
  pub rank : AreCounts r row.entry.rank
  pub joined : line ≡ v ++ (codes " " ++ (m ++ (codes " " ++ r)))

-- a line of evidence whose ranks have so many counts, none of them above the limit
pub record IsShaped (width : ℕ) (line : List ℕ) (row : EntryRow) : Type 0 where
  pub spelled : IsEntryLine line row
  pub count : length row.entry.rank ≡ width
  pub small : AllByRecursion (λ k. k ≤ GREATEST_COUNT) row.entry.rank

-- Its vertex is one of so many, and its move too.
pub record IsRowInside (vertices : ℕ) (row : EntryRow) : Type 0 where
  pub vertex : row.vertex < vertices
  pub move : (t : ℕ) → row.entry.move ≡ Some t → t < vertices

-- The lines say these, which are of a game with so many vertices, and no vertex stands twice.
pub record AreGoodRows (vertices width : ℕ) (rest : List (List ℕ)) (rows : List EntryRow) : Type 0 where
  pub each : AllZip (IsShaped width) rest rows
  pub inside : AllByRecursion (IsRowInside vertices) rows
  pub once : AllPairs (λ x y. x.vertex ≢ y.vertex) rows

-- These are the entries of the rows.
abbrev pub AreEntriesOf : List EntryRow → List (Option Entry) → Type 0
AreEntriesOf rows entries = (v : ℕ) (x : Entry) → slice_index_or entries v None ≡ Some x ↔ Contains rows (record { vertex = v; entry = x })

-- The lines, in any order, say these entries of a game with so many vertices.
pub record AreLines (vertices width : ℕ) (rest : List (List ℕ)) (entries : List (Option Entry)) : Type 0 where
  pub rows : List EntryRow
  pub good : AreGoodRows vertices width rest rows
  pub long : length entries ≡ vertices
  pub same : AreEntriesOf rows entries

-- The text spells the evidence: a header, and a line for each vertex of the set. Lines end by LF, the last end may be missing, and a CR is a byte like
-- any other.
pub record IsEvidenceText (g : Game) (text : List ℕ) (e : Evidence) : Type 0 where
  pub rest : List (List ℕ)
  pub cut : pieces_of text ≡ header e.player ∷ rest
  pub lines : AreLines (length g.vertices) (length (counted e.player g)) rest e.entries
