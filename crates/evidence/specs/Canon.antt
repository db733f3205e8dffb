-- The canonical text of evidence.
use Rattle.std.specs.Prelude.{ℕ, ◌+◌, List, [], ◌∷◌, ◌++◌, Option, Some, None, codes, decimal, slice_index_or}
use Rattle.text.specs.Pieces.{line_end}
use Rattle.game.specs.declared.player.Player.{Player}
use Rattle.game.specs.declared.player.Player.TheVariants.{Even, Odd}
use Rattle.measures.specs.MeasureText.{counts_text}
use Rattle.evidence.specs.Evidence.{Entry, Evidence}

abbrev pub player_text : Player → List ℕ
player_text Even = codes "even"
player_text Odd = codes "odd"

-- `evidence even` or `evidence odd`
abbrev pub header : Player → List ℕ
header player = codes "evidence " ++ player_text player

abbrev pub move_text : Option ℕ → List ℕ
move_text None = codes "-"
move_text (Some t) = decimal t

-- `vertex move rank`
abbrev pub entry_line : ℕ → Entry → List ℕ
entry_line v x = decimal v ++ (codes " " ++ (move_text x.move ++ (codes " " ++ (counts_text x.rank ++ line_end))))

-- the line of a vertex, if it has an entry
abbrev pub entry_line_of : ℕ → Option Entry → List ℕ
entry_line_of v None = []
entry_line_of v (Some x) = entry_line v x

abbrev pub entry_line_at : List (Option Entry) → ℕ → List ℕ
entry_line_at entries v = entry_line_of v (slice_index_or entries v None)

-- a line for each entry, where the first one is of the vertex v
abbrev pub entry_lines : ℕ → List (Option Entry) → List ℕ
entry_lines v [] = []
entry_lines v (None ∷ entries) = entry_lines (v + 1) entries
entry_lines v (Some x ∷ entries) = entry_line v x ++ entry_lines (v + 1) entries

-- the header, and then a line for each vertex of the set, ascending
abbrev pub evidence_text : Evidence → List ℕ
evidence_text e = header e.player ++ (line_end ++ entry_lines 0 e.entries)
