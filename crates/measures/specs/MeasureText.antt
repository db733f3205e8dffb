-- How counts and measures are written and read.
use Rattle.std.specs.Prelude.{◌≡◌, ℕ, List, ◌++◌, map, codes, decimal}
use Rattle.std.specs.List.{AllZip, join_with_byte}
use Rattle.text.specs.Text.{IsNumeral}
use Rattle.measures.specs.Measure.{Counts, Measure, Top}

-- `(a,b,..)`, and `()` where there are none
abbrev pub in_parentheses : List (List ℕ) → List ℕ
in_parentheses pieces = codes "(" ++ (join_with_byte 44 pieces ++ codes ")")

abbrev pub counts_text : List ℕ → List ℕ
counts_text counts = in_parentheses (map decimal counts)

abbrev pub measure_text : Measure → List ℕ
measure_text Top = codes "top"
measure_text (Counts counts) = counts_text counts

-- The bytes are these counts in parentheses, each by its numeral, however long.
abbrev pub AreCounts : List ℕ → List ℕ → Type 0
AreCounts bytes counts = (numerals : List (List ℕ)) × AllZip IsNumeral numerals counts × (bytes ≡ in_parentheses numerals)
