-- The evidence that the least progress tables give: all that each player wins.
use Rattle.std.specs.Prelude.{◌≡◌, ℕ, List, length, Some, None}
use Rattle.game.specs.declared.player.Player.{Player}
use Rattle.game.specs.declared.player.Player.TheVariants.{Even, Odd}
use Rattle.game.specs.Game.{Game, Vertex, dual, vertex}
use Rattle.measures.specs.Measure.{Counts, Measure, Top}
use Rattle.measures.specs.Progress.{IsLeastTable, value_at}
use Rattle.measures.specs.Laws.{IsBestMove}
use Rattle.evidence.specs.Evidence.{Entry, Evidence, entry_at}

-- Even's: the vertices at which the least measure isn't top, and those measures as ranks
pub record IsEvenOf (g : Game) (e : Evidence) : Type 0 where
  pub player : e.player ≡ Even
  pub long : length e.entries ≡ length g.vertices
  pub table : List Measure
  pub least : IsLeastTable g table
  pub outside : (v : ℕ) → value_at table v ≡ Top → entry_at e v ≡ None
  pub inside : (v : ℕ) (counts : List ℕ) → value_at table v ≡ Counts counts
      → (x : Entry) × (entry_at e v ≡ Some x) × (x.rank ≡ counts) × ((w : Vertex) → vertex g v ≡ Some w → IsBestMove g table w x.move)

-- Odd's: Even's of the dual game, read for Odd
abbrev pub IsOddOf : Game → Evidence → Type 0
IsOddOf g e = (e.player ≡ Odd) × IsEvenOf (dual g) (record { player = Even; entries = e.entries })

-- that of this player
abbrev pub IsBestOf : Player → Game → Evidence → Type 0
IsBestOf Even g e = IsEvenOf g e
IsBestOf Odd g e = IsOddOf g e
