-- How proposals of both players are stored, and how they are read.
use Rattle.std.specs.Prelude.{◌≡◌, ℕ, ◌+◌, ◌*◌, ◌%◌, ◌/◌, ◌^◌, ◌≤◌, List, map, min, slice_index_or, ◌==◌, None, Option, Some, if◌then◌else◌}
use Rattle.std.specs.List.{AllZip, range_with_len}
use Rattle.game.specs.declared.player.Player.{Player}
use Rattle.game.specs.declared.player.Player.TheVariants.{Even, Odd}
use Rattle.game.specs.Game.{Game, count, dual}
use Rattle.measures.specs.Measure.{Counts, Measure, Top, components, is_odd}
use Rattle.measures.specs.Progress.{value_at}
use Rattle.measures.specs.Proposal.{Proposal}
use Rattle.measures.specs.declared.field.CountField.{CountField}
use Rattle.measures.specs.declared.proposal.PlayerLayout.{PlayerLayout}
use Rattle.measures.specs.declared.measure.TheConstants.{COMPONENTS}
use Rattle.measures.specs.declared.proposal.ProposedVertex.{ProposedVertex}
use Rattle.measures.specs.declared.proposal.Proposals.{Proposals}
use Rattle.measures.specs.declared.proposal.TheConstants.{NO_MOVE}
use Rattle.measures.specs.declared.value.ProposedValue.{ProposedValue}

-- The game that a player's measures are of: Odd's are those of the dual.
abbrev pub game_for : Player → Game → Game
game_for Even g = g
game_for Odd g = dual g

-- An odd number says that Odd wins.
abbrev pub winner_of : ℕ → Player
winner_of n = if is_odd n then Odd else Even

-- what a number of 64 bits has in a field: what is left of it, shifted to the left and then to the right
abbrev pub count_in : CountField → ℕ → ℕ
count_in field n = (n * 2 ^ (field.left % 64) % 2 ^ 64 / 2 ^ (field.right % 64)) % 2 ^ 32

-- what it has in each of these fields
abbrev pub counts_in : List CountField → ℕ → List ℕ
counts_in fields n = map (λ field. count_in field n) fields

-- what a value that is proposed says
abbrev pub value_said : ProposedValue → Measure
value_said x = if x.is_top then Top else Counts (counts_in x.layout.now.fields.items x.number)

-- the fields' counts for the player who is said to win, and top for the other
abbrev pub value_if : Player → Player → List CountField → ℕ → Measure
value_if Even Even fields n = Counts (counts_in fields n)
value_if Odd Odd fields n = Counts (counts_in fields n)
value_if Even Odd fields n = Top
value_if Odd Even fields n = Top

abbrev pub layout_of : Player → Proposals → PlayerLayout
layout_of Even c = c.even
layout_of Odd c = c.odd

abbrev pub value_of : Player → PlayerLayout → ℕ → Measure
value_of player layout n = value_if player (winner_of n) layout.fields.items n

-- what stands in the row of a vertex: its number, which is the height at digit 0, and then its other heights
abbrev pub height_in : Proposals → (digit v : ℕ) → ℕ
height_in c digit v = slice_index_or c.rows.items (v * (c.width + 1) + digit) 0

-- the measures that are proposed for a player
abbrev pub values_of : Player → Proposals → List Measure
values_of player c = map (λ v. value_of player (layout_of player c) (height_in c 0 v)) (range_with_len 0 c.vertices)

-- a shift is 63 at most, and 63 past the last
abbrev pub shift_in : PlayerLayout → ℕ → ℕ
shift_in layout p = min (slice_index_or layout.shifts p 63) 63

-- the proposal of a player's measures in this game
abbrev pub proposal_in : Player → Proposals → Game → Proposal
proposal_in player c g = record {
  game = g;
  values = values_of player c;
  height = height_in c;
  shift = shift_in (layout_of player c);
}

-- The value of a vertex is the proposed one, and what counts of heights is read by the vertex's priority.
pub record IsProposedAt (c : Proposals) (at : ProposedVertex) : Type 0 where
  pub own : value_said at.own ≡ value_at (values_of at.player c) at.v
  pub layout : at.own.layout.now ≡ layout_of at.player c
  pub shift : at.shift ≡ shift_in (layout_of at.player c) at.priority
  pub few : at.width ≤ COMPONENTS

-- There is a bound for each component of the game, and none is greater than the number of vertices of its priority.
abbrev pub AreBoundsIn : Game → List ℕ → Type 0
AreBoundsIn g bounds = AllZip (λ bound p. bound ≤ count g p) bounds (components g)

-- who is said to win v
abbrev pub winner_at : Proposals → ℕ → Player
winner_at c v = winner_of (height_in c 0 v)

-- the move that a number says: none, or on to a successor
abbrev pub move_said : ℕ → Option ℕ
move_said next = if next == NO_MOVE then None else Some next
