-- What the evidence of a player is written from, where no game is stored.
use Rattle.std.specs.Prelude.{ℕ, List, None, Option, Some, slice_index_or}
use Rattle.evidence.specs.Canon.{entry_line_of}
use Rattle.evidence.specs.Evidence.{Entry}
use Rattle.game.specs.Game.{Game}
use Rattle.measures.specs.Measure.{Counts, Measure, Top}
use Rattle.measures.specs.Progress.{IsLeastTable, value_at}
use Rattle.measures.specs.StoredProposal.{game_for, move_said, values_of}
use Rattle.rankings.specs.Least.{AreWinnersMoves}
use Rattle.verdicts.specs.declared.evidence_text.LeastMeasures.{LeastMeasures}

-- what evidence has of a vertex with this measure and this move
abbrev pub entry_by : Measure → Option ℕ → Option Entry
entry_by Top move = None
entry_by (Counts counts) move = Some (record { move = move; rank = counts })

-- the line of a vertex, if the player wins it
abbrev pub measured_line : LeastMeasures → ℕ → List ℕ
measured_line m v = entry_line_of v (entry_by (value_at (values_of m.player m.proposals.now) v) (move_said (slice_index_or m.moves.now v 0)))

-- The measures are the player's least in this game, and the moves are those of the one who wins.
pub record AreLeastMeasures (m : LeastMeasures) (g : Game) : Type 0 where
  pub least : IsLeastTable (game_for m.player g) (values_of m.player m.proposals.now)
  pub moves : AreWinnersMoves m.proposals.now g m.moves.now
