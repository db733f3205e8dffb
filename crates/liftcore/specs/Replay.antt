-- The text of a replay.
use Rattle.std.specs.Prelude.{ℕ, ◌+◌, Bool, List, [], ◌∷◌, ◌++◌, map, codes, decimal, if◌then◌else◌}
use Rattle.std.specs.List.{join_with_byte}
use Rattle.text.specs.Pieces.{line_end}
use Rattle.measures.specs.Measure.{Measure}
use Rattle.measures.specs.MeasureText.{measure_text}
use Rattle.liftcore.specs.Core.{Core, is_quiet}

-- `events E done D skipped S`
abbrev pub events_line : (done skipped : ℕ) → List ℕ
events_line done skipped = codes "events " ++ (decimal (done + skipped)
    ++ (codes " done " ++ (decimal done ++ (codes " skipped " ++ (decimal skipped ++ line_end)))))

-- `vertex measure`
abbrev pub value_line : ℕ → Measure → List ℕ
value_line v m = decimal v ++ (codes " " ++ (measure_text m ++ line_end))

-- a line for each value, where the first one is of the vertex v
abbrev pub value_lines : ℕ → List Measure → List ℕ
value_lines v [] = []
value_lines v (m ∷ values) = value_line v m ++ value_lines (v + 1) values

-- numbers with a comma between two, or `-` where there are none
abbrev pub listed : List ℕ → List ℕ
listed [] = codes "-"
listed (v ∷ numbers) = join_with_byte 44 (map decimal (v ∷ numbers))

abbrev pub yes_or_no : Bool → List ℕ
yes_or_no flag = if flag then codes "yes" else codes "no"

-- `settled` and `quiet`, each with yes or no, behind the end of a line
abbrev pub end_lines : (settled quiet : Bool) → List ℕ
end_lines settled quiet = codes "\nsettled " ++ (yes_or_no settled ++ (codes "\nquiet " ++ (yes_or_no quiet ++ line_end)))

-- the text of a state that so many events came to, where it is known whether the table is settled
abbrev pub replay_text : (done skipped : ℕ) → Core → Bool → List ℕ
replay_text done skipped c settled =
    events_line done skipped ++ (value_lines 0 c.table.values ++ (codes "pending " ++ (listed c.pending ++ end_lines settled (is_quiet c))))
