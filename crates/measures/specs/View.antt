-- How measures are stored.
use Rattle.std.specs.Prelude.{◌≡◌, ◌↔◌, IsTrue, ℕ, Bool, true, false, List, [], ◌∷◌, drop, length, take, if◌then◌else◌}
use Rattle.game.specs.Game.{Game}
use Rattle.measures.specs.Measure.{Measure, Top, Counts, Reaches, components}
use Rattle.measures.specs.Progress.{value_at}

-- a mark for top, beside counts that then say nothing
abbrev pub measure_of : Bool → List ℕ → Measure
measure_of top counts = if top then Top else Counts counts

-- top has none
abbrev pub counts_of : Measure → List ℕ
counts_of Top = []
counts_of (Counts counts) = counts

abbrev pub is_top_of : Measure → Bool
is_top_of Top = true
is_top_of (Counts counts) = false

-- a mark and so many counts for each measure
abbrev pub rows_of : ℕ → List Bool → List ℕ → List Measure
rows_of width [] counts = []
rows_of width (top ∷ tops) counts = measure_of top (take width counts) ∷ rows_of width tops (drop width counts)

-- measures with so many counts each
pub record Rows : Type 0 where
  pub width : ℕ
  pub values : List Measure

-- top, or so many counts
abbrev pub HasWidth : ℕ → Measure → Type 0
HasWidth width Top = Unit {0}
HasWidth width (Counts counts) = length counts ≡ width

-- in each game with so many components the value of one place reaches that of the other, at this priority
abbrev pub ReachesAt : Rows → ℕ → ℕ → ℕ → Bool → Type 0
ReachesAt r p next v result = (g : Game) → length (components g) ≡ r.width → (IsTrue result ↔ Reaches g p (value_at r.values next) (value_at r.values v))
