-- What evidence of the program stands for.
use Rattle.std.specs.Prelude.{ℕ, List, [], ◌∷◌, drop, length, replicate, slice_set, take, Option, Some, None}
use Rattle.game.specs.Game.{Game}
use Rattle.game.specs.declared.player.Player.{Player}
use Rattle.evidence.specs.Evidence.{Entry, Evidence, counted}
use Rattle.evidence.specs.declared.entries.EntryPlace.{EntryPlace}
use Rattle.evidence.specs.declared.entries.EntryPlace.TheVariants.{Outside, Stays, Goes}

abbrev pub entry_of : EntryPlace → List ℕ → Option Entry
entry_of Outside rank = None
entry_of Stays rank = Some (record { move = None; rank = rank })
entry_of (Goes t) rank = Some (record { move = Some t; rank = rank })

-- a place and so many counts for each vertex
abbrev pub entries_of : ℕ → List EntryPlace → List ℕ → List (Option Entry)
entries_of width [] counts = []
entries_of width (place ∷ places) counts = entry_of place (take width counts) ∷ entries_of width places (drop width counts)

-- entries whose ranks have so many counts
pub record Entries : Type 0 where
  pub width : ℕ
  pub entries : List (Option Entry)

-- evidence that names its game
pub record NamedEvidence : Type 0 where
  pub game : Game
  pub evidence : Evidence

-- how many counts each rank has
abbrev pub rank_width : NamedEvidence → ℕ
rank_width e = length (counted e.evidence.player e.game)

-- that a player wins nothing
abbrev pub empty : Game → Player → NamedEvidence
empty g player = record { game = g; evidence = record { player = player; entries = replicate (length g.vertices) None } }

-- the same with this entry of a vertex
abbrev pub with_entry : NamedEvidence → ℕ → Entry → NamedEvidence
with_entry e v x = record e { evidence = record e.evidence { entries = slice_set e.evidence.entries v (Some x) } }
