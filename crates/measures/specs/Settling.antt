-- Sweeps of lifts over all vertices.
use Rattle.std.specs.Prelude.{◌≡◌, ◌<◌, ℕ, Bool, List, MatchBool}
use Rattle.game.specs.Game.{Game}
use Rattle.measures.specs.Lifting.{sum_of}
use Rattle.measures.specs.Measure.{Measure}
use Rattle.measures.specs.Progress.{IsLiftAt, IsProgress, value_at}

-- no lift raises the vertex
abbrev pub IsStill : Game → List Measure → ℕ → Type 0
IsStill g table v = IsLiftAt g table v (value_at table v)

-- The vertex rose to its lift, or is still.
abbrev pub LiftsAt : Game → ℕ → List Measure → List Measure → Bool → Type 0
LiftsAt g v old new rose = MatchBool rose (sum_of g old < sum_of g new) ((new ≡ old) × IsStill g new v)

-- Some vertex rose, or the table is a progress table.
abbrev pub Sweeps : Game → List Measure → List Measure → Bool → Type 0
Sweeps g old new rose = MatchBool rose (sum_of g old < sum_of g new) (IsProgress g new)
