-- Evidence that a player wins a set of vertices.
use Rattle.std.specs.Prelude.{◌≡◌, ◌≢◌, ℕ, zero, suc, ◌<◌, ◌⊎◌, Bool, List, [], ◌∷◌, length, take, count_by, IsTrue, Contains, Option, Some, None, nat_le}
use Rattle.std.specs.Prelude.{slice_index_or, if◌then◌else◌}
use Rattle.std.specs.Option.{is_some}
use Rattle.game.specs.declared.player.Player.{Player}
use Rattle.game.specs.declared.player.Player.TheVariants.{Even, Odd}
use Rattle.game.specs.Game.{Game, Vertex, greatest, opponent, vertex}
use Rattle.game.specs.Wins.{IsOf}
use Rattle.measures.specs.Measure.{Counts, IsAtMost, IsBelow, is_odd, odd_down}
use Rattle.evidence.specs.declared.verdict.Fault.{Fault}
use Rattle.evidence.specs.declared.verdict.Fault.TheVariants.{Leaves, Move, Rank}

-- what a vertex of the set has
pub record Entry : Type 0 where
  pub move : Option ℕ
  pub rank : List ℕ

-- an entry for each vertex of the set, by the vertices' numbers
pub record Evidence : Type 0 where
  pub player : Player
  pub entries : List (Option Entry)

abbrev pub entry_at : Evidence → ℕ → Option Entry
entry_at e v = slice_index_or e.entries v None

-- The vertex lies in the set.
abbrev pub has : Evidence → ℕ → Bool
has e v = is_some (entry_at e v)

-- the even numbers up to n, the greatest first
abbrev pub even_down : ℕ → List ℕ
even_down zero = 0 ∷ []
even_down (suc n) = if is_odd (suc n) then even_down n else suc n ∷ even_down n

-- the priorities that a player's rank counts: the opponent's, the greatest first
abbrev pub counted : Player → Game → List ℕ
counted Even g = odd_down (greatest g)
counted Odd g = even_down (greatest g)

pub record IsEntry (g : Game) (player : Player) (x : Entry) : Type 0 where
  pub move : (t : ℕ) → x.move ≡ Some t → t < length g.vertices
  pub rank : length x.rank ≡ length (counted player g)

-- evidence for this game: of its vertices, with moves to them, and with a count for each priority that counts
pub record IsEvidence (g : Game) (e : Evidence) : Type 0 where
  pub long : length e.entries ≡ length g.vertices
  pub entries : (v : ℕ) (x : Entry) → entry_at e v ≡ Some x → IsEntry g e.player x

-- the rank's counts at or above a priority
abbrev pub cut : Player → Game → ℕ → List ℕ → List ℕ
cut player g p rank = take (count_by (λ q. nat_le p q) (counted player g)) rank

-- From the first rank to the second the counts at or above the priority, read as lists, don't rise, and fall where the priority is the opponent's.
abbrev pub Descends : Player → Game → ℕ → List ℕ → List ℕ → Type 0
Descends player g p rank next =
    IsAtMost (Counts (cut player g p next)) (Counts (cut player g p rank))
    × (IsOf (opponent player) p → IsBelow (Counts (cut player g p next)) (Counts (cut player g p rank)))

-- where the play may go from an entry: by its move at a vertex of the player, and else to each successor
abbrev pub GoesTo : Player → Vertex → Entry → ℕ → Type 0
GoesTo player v x t = ((v.owner ≡ player) × (x.move ≡ Some t)) ⊎ ((v.owner ≢ player) × Contains v.successors t)

-- No fault of this kind stands at the entry of a vertex.
abbrev pub LacksFault : Game → Evidence → Vertex → Entry → Fault → Type 0
LacksFault g e v x Move = (v.owner ≡ e.player → (t : ℕ) × (x.move ≡ Some t) × Contains v.successors t) × (v.owner ≢ e.player → x.move ≡ None)
LacksFault g e v x Leaves = (t : ℕ) → GoesTo e.player v x t → IsTrue (has e t)
LacksFault g e v x Rank = (t : ℕ) (y : Entry) → GoesTo e.player v x t → entry_at e t ≡ Some y → Descends e.player g v.priority x.rank y.rank

-- No fault of this kind stands at this vertex.
abbrev pub IsFreeAt : Game → Evidence → ℕ → Fault → Type 0
IsFreeAt g e u fault = (x : Entry) (v : Vertex) → entry_at e u ≡ Some x → vertex g u ≡ Some v → LacksFault g e v x fault

-- No fault stands anywhere.
abbrev pub IsGood : Game → Evidence → Type 0
IsGood g e = (u : ℕ) (fault : Fault) → IsFreeAt g e u fault
