-- Sets of numbers, as a mark for each number.
use Rattle.std.specs.Prelude.{◌≡◌, ℕ, Bool, false, true, List, filter, length, slice_index_or}
use Rattle.std.specs.List.{range_with_len}

abbrev pub IsMarked : List Bool → ℕ → Type 0
IsMarked marks v = slice_index_or marks v false ≡ true

-- the numbers that are marked, ascending
abbrev pub members : List Bool → List ℕ
members marks = filter (λ v. slice_index_or marks v false) (range_with_len 0 (length marks))
