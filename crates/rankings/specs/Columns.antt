-- The numbers of columns.
use Rattle.std.specs.Prelude.{ℕ, ◌+◌, ◌*◌, ◌%◌, ◌/◌, ◌^◌, Bool, List, [], if◌then◌else◌, ◌==◌, slice_index_or}
use Rattle.game.specs.declared.column.Column.{Column}
use Rattle.game.specs.declared.column.Column.TheVariants as kept
use Rattle.rankings.specs.declared.column.Numbers.{Numbers}
use Rattle.rankings.specs.declared.column.Numbers.TheVariants as lent
use Rattle.rankings.specs.declared.column.ColumnView.{ColumnView}

-- whether the mark of a state is set, where the marks begin with this word
abbrev pub is_state_marked : List ℕ → ℕ → ℕ → Bool
is_state_marked marks first s = (slice_index_or marks (first + s / 64) 0 / 2 ^ (s % 64)) % 2 == 1

-- the number of whoever is marked to win at a state, with so many units as one list counts there, and what the other one adds
abbrev pub won_by : List ℕ → ℕ → ℕ → ℕ → ℕ → List ℕ → List ℕ → ℕ → ℕ
won_by marks first even odd unit counts words s =
    (((if is_state_marked marks first s then odd else even) + (unit * slice_index_or counts s 0) % 2 ^ 64) % 2 ^ 64 + slice_index_or words s 0) % 2 ^ 64

-- by state, of a column with the lists of marks, of counts and of words
abbrev pub kept_number : List ℕ → List (List ℕ) → List (List ℕ) → Column → ℕ → ℕ
kept_number marks counts words (kept.Same n) = λ s. n
kept_number marks counts words (kept.Won x) =
    won_by marks x.marks x.even x.odd x.unit (slice_index_or counts x.counts []) (slice_index_or words x.words [])

abbrev pub won_at : ColumnView → ℕ → ℕ
won_at x = won_by x.marks.now x.first x.even x.odd x.unit x.counts.now x.words.now

-- and of one that is lent
abbrev pub number_at : Numbers → ℕ → ℕ
number_at (lent.Same n) = λ s. n
number_at (lent.Won x) = won_at x
